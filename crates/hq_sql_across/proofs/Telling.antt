-- What replies tell, whichever faults may be answered.
use Rattle.std.proofs.Common.{List, [], ◌∷◌, ℕ, Option, None, Some, Result, Ok, Err, inl, inr}
use Rattle.std.specs.Prelude.{⊤}
use Rattle.std.specs.List.{AllZip}
use Rattle.hq_values.specs.declared.failure.Fault.{Fault}
use Rattle.hq_values.specs.declared.failure.Refusal.{Refusal}
use Rattle.hq_requests.specs.Calls.{Asked, CallOf, CallOfAll}
use Rattle.hq_requests.specs.declared.directory.Directory.{Directory}
use Rattle.hq_wire.specs.Exchanges.{Ask, EndsAt, Tells, TellsOf}
use Rattle.hq_wire.specs.Replies.{SeenReply, Stop}

-- a stop by any fault is told at a customer
any_end : (may : Fault → Type 0) (left : List (List ℕ)) (stopped : Option Stop) →
    EndsAt may left stopped → EndsAt (λ fault. ⊤) left stopped
any_end may left None ends = ends
any_end may left (Some stop) ends = (tt, ends.1)

tells_some : (may : Fault → Type 0) (d : Directory) (called : Result Asked Refusal)
    (r : SeenReply) → TellsOf may d called r → TellsOf (λ fault. ⊤) d called r
tells_some may d (Err refusal) r (inl told) = inl told
tells_some may d (Err refusal) r (inr want) = inr (tt, want.1)
tells_some may d (Ok (CallOf name call)) r (inl told) = inl told
tells_some may d (Ok (CallOf name call)) r (inr struck) = inr (struck.0, tt, struck.2)
tells_some may d (Ok (CallOfAll whom call)) r (inl parts) = inl (record {
  left = parts.left;
  order = parts.order;
  ends = any_end may parts.left r.stopped parts.ends;
  objects = parts.objects;
  reply = parts.reply;
})
tells_some may d (Ok (CallOfAll whom call)) r (inr want) = inr (tt, want.1)

-- of all that was asked
pub tells_any : (may : Fault → Type 0) (d : Directory) (asks : List Ask) (rs : List SeenReply) →
    AllZip (Tells may d) asks rs → AllZip (Tells (λ fault. ⊤) d) asks rs
tells_any may d [] [] h = tt
tells_any may d [] (r ∷ rs) h = absurd h
tells_any may d (a ∷ asks) [] h = absurd h
tells_any may d (a ∷ asks) (r ∷ rs) h =
    (tells_some may d a.called r h.0, tells_any may d asks rs h.1)
