-- What is told where a store is closed behind exchanges.
use Rattle.std.proofs.Common.{◌≡◌, ◌⊎◌, inl, inr, ⊎_elim, true, false, List, [], ◌∷◌, Result, Ok}
use Rattle.std.proofs.Common.{Err, refl, sym, ap, ◌∙◌}
use Rattle.std.specs.List.{AllZip}
use Rattle.hq_values.specs.Refusals.{no_memory}
use Rattle.hq_values.specs.Turns.{InTurn}
use Rattle.hq_values.specs.declared.failure.Fault.{Fault}
use Rattle.hq_values.specs.declared.failure.Fault.TheVariants.{Closed}
use Rattle.hq_values.specs.declared.failure.Refusal.{Refusal}
use Rattle.hq_rules.specs.Desks.{DeskSight}
use Rattle.hq_requests.specs.Calls.{Asked, CallOf, CallOfAll}
use Rattle.hq_requests.specs.declared.directory.Directory.{Directory}
use Rattle.hq_wire.specs.Exchanges.{Ask, Exchanged, RepliesAnyway, TellsClosed}
use Rattle.hq_wire.specs.Replies.{SeenReply, reply_of_fault, tells_store}
use Rattle.hq_wire.proofs.Serving.{served}
use Rattle.hq_together.specs.Together.{MakesNoCall, SomeTellsClosed}
use Rattle.hq_together.proofs.Inside.{differ}
use Rattle.hq_together.proofs.Wanted.{wants}

module _ {D : Type 0} (sight : DeskSight D) (d : Directory) where
  abbrev IsShut : D → Type 0
  IsShut desk = sight.store.is_closed desk ≡ true

  -- behind one exchange the store is closed: this is told, or the desk is as it was and no call was
  -- made
  one : (old new : D) (called : Result Asked Refusal) (at : _) (r : SeenReply) →
      RepliesAnyway sight.store d old called r new → IsShut new →
      TellsClosed r ⊎ ((new ≡ old)
      × MakesNoCall sight.store.may_answer d (record { at = at; called = called }) r)
  one old new (Err refusal) at r anyway closed = inr (anyway.1, inr tt)
  one old new (Ok (CallOf name call)) at r anyway closed = ⊎_elim
      (λ told. inl (inl told)) (λ want. inr (want.1, inl want.0)) (anyway closed)
  one old new (Ok (CallOfAll whom call)) at r anyway closed = ⊎_elim
      (λ told. inl (inr told))
      (λ none. inr (none.1, ⊎_elim (λ want. inl want) (λ nobody. inr nobody) none.0))
      (anyway closed)

  -- what told it is closed behind all
  pub told_closed : (old new : D) (asks : List Ask) (rs : List SeenReply) →
      InTurn (Exchanged sight d) old asks rs new → SomeTellsClosed rs → IsShut new
  told_closed old new [] [] h told = absurd told
  told_closed old new (a ∷ asks) [] h told = absurd told
  told_closed old new [] (r ∷ rs) h told = absurd h
  told_closed old new (a ∷ asks) (r ∷ rs) h told = ⊎_elim
      (λ (here : TellsClosed r). elim (sight.store.is_closed new) as (λ b.
      sight.store.is_closed new ≡ b → IsShut new) [
        | true ↦ λ is. is
        | false ↦ λ is. differ (sym (h.1.closed here)
            ∙ (served sight d h.0 new asks rs h.2).stays.stays_open is)
      ] refl)
      (λ later. told_closed h.0 new asks rs h.2 later) told

  -- a store that was open, and is closed: some reply tells it
  pub closing : (old new : D) (asks : List Ask) (rs : List SeenReply) →
      InTurn (Exchanged sight d) old asks rs new → sight.store.is_closed old ≡ false →
      IsShut new → SomeTellsClosed rs
  closing old new [] [] h open_ closed =
      differ (sym closed ∙ ap sight.store.is_closed h ∙ open_)
  closing old new (a ∷ asks) [] h open_ closed = absurd h
  closing old new [] (r ∷ rs) h open_ closed = absurd h
  closing old new (a ∷ asks) (r ∷ rs) h open_ closed =
      elim (sight.store.is_closed h.0) as (λ b. sight.store.is_closed h.0 ≡ b →
      SomeTellsClosed (r ∷ rs)) [
        | true ↦ λ is. ⊎_elim (λ told. inl told)
            (λ none. differ (sym is ∙ ap sight.store.is_closed none.0 ∙ open_))
            (one old h.0 a.called a.at r h.1.anyway is)
        | false ↦ λ is. inr (closing h.0 new asks rs h.2 is closed)
      ] refl

  -- a store that was closed: each reply tells it, or what was asked made no call
  pub was_closed : (old new : D) (asks : List Ask) (rs : List SeenReply) →
      InTurn (Exchanged sight d) old asks rs new → IsShut old →
      SomeTellsClosed rs ⊎ AllZip (MakesNoCall sight.store.may_answer d) asks rs
  was_closed old new [] [] h closed = inr tt
  was_closed old new (a ∷ asks) [] h closed = absurd h
  was_closed old new [] (r ∷ rs) h closed = absurd h
  was_closed old new (a ∷ asks) (r ∷ rs) h closed =
      let still : IsShut h.0 = elim (sight.store.is_closed h.0) as (λ b.
      sight.store.is_closed h.0 ≡ b → IsShut h.0) [
        | true ↦ λ is. is
        | false ↦ λ is. differ (sym closed ∙ h.1.stays.stays_open is)
      ] refl in
      ⊎_elim (λ told. inl (inl told))
      (λ none. ⊎_elim (λ later. inl (inr later)) (λ all. inr (none.1, all))
      (was_closed h.0 new asks rs h.2 still)) (one old h.0 a.called a.at r h.1.anyway still)

-- a reply of want of memory tells of no closed store
memory_tells : tells_store (reply_of_fault no_memory) ≡ false
unfolding reply_of_fault
memory_tells = refl

closed_tells : tells_store (reply_of_fault Closed) ≡ true
unfolding reply_of_fault
closed_tells = refl

no_memory_differs : TellsClosed (reply_of_fault no_memory) → ⊥
unfolding reply_of_fault
no_memory_differs (inl is) = differ (sym closed_tells ∙ sym (ap tells_store is) ∙ memory_tells)
no_memory_differs (inr (customer, is)) = cc

pub none_told : (asks : List Ask) → SomeTellsClosed (wants asks) → ⊥
none_told [] told = told
none_told (a ∷ asks) told = ⊎_elim no_memory_differs (none_told asks) told

pub none_called : (may : Fault → Type 0) (d : Directory) → may no_memory → (asks : List Ask) →
    AllZip (MakesNoCall may d) asks (wants asks)
none_called may d want [] = tt
none_called may d want (a ∷ asks) = (inl (want, refl), none_called may d want asks)
