-- A call that reads, and then a change; and the changes of the move of a message.
use Rattle.std.proofs.Common.{◌≡◌, inl, inr, ⊎_elim, Result, Ok, Err, refl, ◌∙◌}
use Rattle.std.proofs.Common.{Option, None, Some}
use Rattle.hq_values.specs.declared.failure.Fault.{Fault}
use Rattle.hq_tables.specs.Shelves.{Sight, Keeps, KeepsOnErr, StopLeavesWhole}
use Rattle.hq_tables.specs.Tables.{Tables}
use Rattle.hq_reads.proofs.Reading.{changes_on, made_on, rests_on}
use Rattle.hq_reads.specs.Memory.{with_memory}
use Rattle.hq_kept.specs.declared.message.Message.{Message}
use Rattle.hq_rules.specs.Messages.{moved}
use Rattle.hq_rules.specs.Queues.{moved_by, put}
use Rattle.hq_rules.specs.declared.call.Move.{Move}
use Rattle.hq_rules.specs.declared.call.Move.TheVariants.{Hold, Release}
use Rattle.hq_moves.specs.Moved.{move_found, move_of}

-- what both keep together
pub kept_on : {S X Y : Type 0} (refused : Type 0) (sight : Sight S) (old mid new : S) (x : X)
    (result : Result Y Fault) → Keeps (with_memory refused sight) old mid (Ok x) →
    KeepsOnErr sight mid new result → KeepsOnErr (with_memory refused sight) old new result
kept_on refused sight old mid new x (Ok y) first next =
    made_on refused refused sight old mid new x y y first next
kept_on refused sight old mid new x (Err fault) first next =
    changes_on refused refused sight old mid new x fault (Err fault) refl first next

-- what a stop in both leaves
pub left_on : {S X : Type 0} (refused : Type 0) (sight : Sight S) (old mid new : S) (x : X)
    (made after : Tables) → Keeps (with_memory refused sight) old mid (Ok x) →
    sight.is_clean mid → sight.is_ours old → made ≡ after → StopLeavesWhole sight mid new made →
    StopLeavesWhole sight old new after
left_on refused sight old mid new x made after first clean ours is left rests =
    let same : sight.tables mid ≡ sight.tables old = first.same clean ours first.tally.1 in
    let both = left (rests_on sight old mid (first.stops clean (inl ours)) same rests) in (
      both.0,
      λ t may. ⊎_elim (λ (before : t ≡ sight.tables mid). inl (before ∙ same))
          (λ (behind : t ≡ made). inr (behind ∙ is)) (both.1 t may),
    )

pub changes_so : (by : Move) (found : Option Message) →
    (move_found by found).changes ≡ move_of by found
changes_so Hold None = refl
changes_so (Release at) None = refl
changes_so Hold (Some m) = go (moved_by Hold m)
  where
    go : (o : Option Message) → (moved o).changes ≡ put o
    go None = refl
    go (Some n) = refl
changes_so (Release at) (Some m) = go (moved_by (Release at) m)
  where
    go : (o : Option Message) → (moved o).changes ≡ put o
    go None = refl
    go (Some n) = refl
