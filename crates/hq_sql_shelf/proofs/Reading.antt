-- What a call keeps that makes ready, asks the store, and answers or gives up.
use Rattle.std.proofs.Common.{◌≡◌, inl, inr, ℕ, Bool, false, true≢false, IsTrue}
use Rattle.std.proofs.Common.{Result, Ok, Err, refl, sym, ap, ◌∙◌, subst}
use Rattle.std.specs.Prelude.{⊤, IfErr}
use Rattle.sqlite.specs.Held.{Held, state}
use Rattle.sqlite.specs.State.{State, HasCleanDisk, KeepsCommit}
use Rattle.sqlite.specs.declared.error.Error.{Error}
use Rattle.sqlite_trees.specs.declared.store.Store.{Ghosts}
use Rattle.hq_values.specs.declared.failure.Fault.{Fault}
use Rattle.hq_values.specs.declared.failure.Fault.TheVariants.{WantOfMemory, Disk, BadSchema}
use Rattle.hq_values.specs.declared.failure.Fault.TheVariants.{Closed}
use Rattle.hq_keyed.specs.Left.{IsQuiet, LeavesNoMore}
use Rattle.hq_keyed.proofs.Left.{clean_before}
use Rattle.hq_tables.specs.Shelves.{Sight, Keeps, IsTallied, one_more}
use Rattle.hq_sql.specs.Kept.{Intact}
use Rattle.hq_sql.specs.Tables.{IsDesk, tables_in}
use Rattle.hq_sql_open.specs.Faults.{IsCaused}
use Rattle.hq_sql_open.specs.Standings.{Settles}
use Rattle.hq_sql_open.specs.Transactions.{IsSettled}
use Rattle.hq_sql_open.specs.declared.transaction.Standing.{Standing}
use Rattle.hq_sql_open.specs.declared.transaction.Standing.TheVariants.{Open, Gone, InDoubt, Lost}
use Rattle.hq_sql_open.specs.declared.transaction.Standing.TheVariants.{Unasked}
use Rattle.hq_sql_shelf.specs.declared.shelf.SqlShelf.{SqlShelf}
use Rattle.hq_sql_shelf.specs.Shelf.{IsOurs, HoldsTables, Stands, GivesUp, sight_over, is_gone}
use Rattle.hq_sql_shelf.proofs.Ours.{open_stands}
use Rattle.hq_sql_shelf.proofs.Stops.{no_more}

-- ---- giving up

tallied : (X : Type 0) (was is : Bool) (m n k : ℕ) (fault : Fault) → was ≡ false → k ≡ m →
    IsTallied {X = ⊤} false is k n (Err fault) → IsTallied {X = X} was is m n (Err fault)
tallied X was is m n k WantOfMemory was_open same it = (was_open, it.1, it.2 ∙ same)
tallied X was is m n k Disk was_open same it = (was_open, it.1, it.2 ∙ ap one_more same)
tallied X was is m n k BadSchema was_open same it = absurd it
tallied X was is m n k Closed was_open same it = (it.0, it.1 ∙ ap one_more same)

pub still_settled : (old new : State) (standing : Standing) → Settles old new standing →
    HasCleanDisk new → Stands standing new → is_gone standing ≡ false → IsSettled new
still_settled old new Open it clean stands stays = it.settled clean refl
still_settled old new Gone it clean stands stays = absurd (true≢false stays)
still_settled old new Lost it clean stands stays = absurd (true≢false stays)
still_settled old new InDoubt it clean stands stays =
    let undone = it.undone clean in
    record { is_open = stands; mode = undone.mode; now = undone.now stands }
still_settled old new Unasked it clean stands stays =
    let undone = it.undone clean in
    record { is_open = stands; mode = undone.mode; now = undone.now stands }

-- what giving up keeps, whatever was asked
pub record Ends {S X : Type 0} (sight : Sight S) (old new : S) (result : Result X Fault) : Type 0
  where
    pub same : sight.is_clean new → sight.is_ours old → sight.is_closed new ≡ false →
        sight.tables new ≡ sight.tables old
    pub ours : sight.is_clean new → sight.is_ours old → sight.is_closed new ≡ false →
        sight.is_ours new
    pub quiet : sight.is_clean new → sight.is_clean old
    pub tally : IsTallied (sight.is_closed old) (sight.is_closed new) (sight.fault_count old)
        (sight.fault_count new) result
    pub cause : IfErr result sight.may_answer

-- ---- behind a call that made ready

module _ {S M X : Type 0} (refused failed : Type 0) (g : Ghosts S) (old mid : SqlShelf S M) (x : X)
    (first : Keeps (sight_over refused failed (state g)) old mid (Ok x)) (stands : mid.standing ≡
    Open)
    (less : LeavesNoMore (state g old.conn) (state g mid.conn)) where
  seen : HasCleanDisk (state g mid.conn) →
      HasCleanDisk (state g mid.conn) × Stands mid.standing (state g mid.conn)
  seen = open_stands mid.standing (state g mid.conn) stands

  owned : HasCleanDisk (state g mid.conn) → IsOurs (state g old.conn) → IsOurs (state g mid.conn)
  owned clean ours = first.ours (seen clean) ours first.tally.1

  desk_seen : IsOurs (state g mid.conn) → IsDesk (state g mid.conn).now
  desk_seen ours = subst IsDesk (sym ours.settled.now) ours.holds.desk

  -- a call that reads, where it answers
  pub answered : {Y Z : Type 0} (new : Held S) (y : Y) (z : Z) →
      Intact (state g mid.conn) (state g new) (Ok y) →
      Keeps (sight_over refused failed (state g)) old (record mid { conn = new }) (Ok z)
  answered new y z kept =
      let before : HasCleanDisk (state g new) → HasCleanDisk (state g mid.conn) =
      clean_before (state g mid.conn) (state g new) kept.quiet in
      record {
        same = λ clean ours opened.
            let mine = owned (before clean.0) ours in
            ap tables_in (kept.same clean.0 (desk_seen mine)).0.committed_is ∙ first.same
            (seen (before clean.0)) ours first.tally.1;
        ours = λ clean ours opened.
            let mine = owned (before clean.0) ours in
            let shown = (kept.same clean.0 (desk_seen mine)).0 in
            record {
              settled = record {
                is_open = shown.is_open;
                mode = shown.mode ∙ mine.settled.mode;
                now = shown.now_is ∙ mine.settled.now ∙ sym shown.committed_is;
              };
              holds = subst HoldsTables (sym shown.committed_is) mine.holds;
            };
        round = λ clean either t back. tt;
        quiet = λ clean. first.quiet
            (seen (before clean.0));
        tally = first.tally;
        cause = tt;
        stops = λ clean which. elim which [
          | inl ours ↦ no_more refused failed g old (record mid { conn = new }) clean.0 (λ still db
              may.
              less (before still) db
              (kept.stops (desk_seen (owned (before still) ours)) still db may))
          | inr closed ↦ absurd (true≢false (sym closed ∙ first.tally.0))
        ];
      }

  -- any call, where it gives up
  pub ended : {Z : Type 0} (tried : Held S) (new : SqlShelf S M) (fault : Fault) →
      IsQuiet (state g mid.conn) (state g tried) →
      (HasCleanDisk (state g tried) → IsOurs (state g mid.conn) →
      KeepsCommit (state g mid.conn) (state g tried)) →
      Settles (state g tried) (state g new.conn) new.standing →
      GivesUp new.standing mid.faults new.faults fault → IsCaused refused failed fault →
      Ends {X = Z} (sight_over refused failed (state g)) old new (Err fault)
  ended {Z = Z} tried new fault quiet kept settles tally cause =
      let before : HasCleanDisk (state g new.conn) → HasCleanDisk (state g mid.conn) =
      λ clean. clean_before (state g mid.conn) (state g tried) quiet
      (clean_before (state g tried) (state g new.conn) settles.quiet clean) in
      let committed : HasCleanDisk (state g new.conn) → IsTrue (state g new.conn).is_open →
      IsOurs (state g mid.conn) → (state g new.conn).committed ≡ (state g mid.conn).committed =
      λ clean opened mine.
      let undone = settles.undone clean in
      undone.kept.committed opened ∙ (kept
      (clean_before (state g tried) (state g new.conn) settles.quiet clean) mine).committed
      (undone.kept.was_open opened) in
      record {
        same = λ clean ours opened.
            let mine = owned (before clean.0) ours in
            let settled = still_settled (state g tried) (state g new.conn) new.standing settles
            clean.0 clean.1 opened in
            ap tables_in (committed clean.0 settled.is_open mine) ∙ first.same
            (seen (before clean.0)) ours first.tally.1;
        ours = λ clean ours opened.
            let mine = owned (before clean.0) ours in
            let settled = still_settled (state g tried) (state g new.conn) new.standing settles
            clean.0 clean.1 opened in
            record {
              settled = settled;
              holds = subst HoldsTables (sym (committed clean.0 settled.is_open mine)) mine.holds;
            };
        quiet = λ clean. first.quiet
            (seen (before clean.0));
        tally = tallied Z (is_gone old.standing) (is_gone new.standing) old.faults new.faults
            mid.faults fault first.tally.0 first.tally.2 tally;
        cause = cause;
      }

  -- a call that reads, where it gives up
  pub gave_up : {Y Z : Type 0} (tried : Held S) (new : SqlShelf S M) (error : Error) (fault :
      Fault) →
      Intact {X = Y} (state g mid.conn) (state g tried) (Err error) →
      Settles (state g tried) (state g new.conn) new.standing →
      GivesUp new.standing mid.faults new.faults fault → IsCaused refused failed fault →
      Keeps {X = Z} (sight_over refused failed (state g)) old new (Err fault)
  gave_up {Z = Z} tried new error fault kept settles tally cause =
      let end : Ends {X = Z} (sight_over refused failed (state g)) old new (Err fault) =
      ended tried new fault kept.quiet (λ clean mine. kept.kept clean (desk_seen mine)) settles
      tally cause in
      let during : HasCleanDisk (state g new.conn) → HasCleanDisk (state g tried) =
      clean_before (state g tried) (state g new.conn) settles.quiet in
      let before : HasCleanDisk (state g tried) → HasCleanDisk (state g mid.conn) =
      clean_before (state g mid.conn) (state g tried) kept.quiet in
      record {
        same = end.same;
        ours = end.ours;
        round = λ clean either t back. tt;
        quiet = end.quiet;
        tally = end.tally;
        cause = end.cause;
        stops = λ clean which. elim which [
          | inl ours ↦ no_more refused failed g old new clean.0 (λ still db may.
              less (before (during still)) db
              (kept.stops (desk_seen (owned (before (during still)) ours)) (during still) db
              (settles.stops still db may)))
          | inr closed ↦ absurd (true≢false (sym closed ∙ first.tally.0))
        ];
      }
