-- Where no fault may be answered, everything that was asked is answered, and done.
use Rattle.std.proofs.Common.{◌≡◌, ◌≢◌, ◌⊎◌, ⊎_elim, ℕ, Bool, true, false, cond, eqb, List, []}
use Rattle.std.proofs.Common.{◌∷◌, ◌++◌, map, Option, None, Some, Result, Ok, Err, refl, sym, ap}
use Rattle.std.proofs.Common.{◌∙◌, subst, append-nil}
use Rattle.std.specs.List.{flat_map}
use Rattle.std.proofs.lemmas.Bool.{eq-eqb, false≢true}
use Rattle.std.proofs.lemmas.List.{map-append}
use Rattle.hq_values.specs.Refusals.{no_memory}
use Rattle.hq_values.specs.declared.failure.Fault.{Fault}
use Rattle.hq_values.specs.declared.failure.Refusal.{Refusal}
use Rattle.hq_tables.specs.Tables.{Tables}
use Rattle.hq_rules.specs.Answers.{answer_number}
use Rattle.hq_rules.specs.Machine.{shared}
use Rattle.hq_rules.specs.declared.answer.Answer.{Answer}
use Rattle.hq_rules.specs.declared.answer.Answer.TheVariants.{Refused}
use Rattle.hq_rules.specs.declared.call.Call.{Call}
use Rattle.hq_requests.specs.Calls.{Asked, CallOf, CallOfAll}
use Rattle.hq_requests.specs.Directories.{entry_of}
use Rattle.hq_wire.specs.Exchanges.{Ask, CallsAll, Deed, EndsAt, IsStruck, IsWant, MayReplyTo}
use Rattle.hq_wire.specs.Exchanges.{Whole, calls_asked, deeds_of, next_left, of_part, unheard_call}
use Rattle.hq_across.specs.Answered.{IsAnsweredTo, as_asked}
use Rattle.hq_wire.specs.Replies.{Part, SeenReply, Stop, parted_reply, reply_of, status_of}
use Rattle.hq_wire.specs.Runs.{AllReplied, deeds}
use Rattle.hq_requests.specs.declared.directory.Directory.{Directory}
use Rattle.hq_wire.proofs.Alone.{answer_not_struck}

module _ (may : Fault → Type 0) (none : (fault : Fault) → may fault → ⊥) (host : List ℕ)
    (d : Directory) where
  -- a call of all was not stopped
  went_on : (left : List (List ℕ)) (stopped : Option Stop) → EndsAt may left stopped →
      (left ≡ []) × (stopped ≡ None)
  went_on left None ends = (ends, refl)
  went_on left (Some stop) ends = absurd (none stop.fault ends.0)

  -- what may be replied is the answer
  pub answered : (t t' : Tables) (at : ℕ) (called : Result Asked Refusal) (r : SeenReply) →
      MayReplyTo may host d t at called r t' → IsAnsweredTo host d t at called r t'
  answered t t' at (Err refusal) r h = (
    ⊎_elim (λ (told : r ≡ reply_of (Refused refusal)). told)
        (λ (want : IsWant may r). absurd (none no_memory want.0)) h.0,
    h.1,
  )
  answered t t' at (Ok (CallOf name call)) r h =
      let done = shared host (entry_of d name) t at call in ⊎_elim
      (λ (did : (r ≡ reply_of done.0) × (t' ≡ done.1)). did)
      (λ (no : (fault : Fault) × may fault × IsStruck fault t r t'). absurd (none no.0 no.1)) h
  answered t t' at (Ok (CallOfAll whom call)) r h = ⊎_elim
      (λ (did : CallsAll may host d t at whom call r t').
      let all = went_on did.left r.stopped did.ends in (
        did.order ∙ ap (λ ns. map (λ (part : Part). part.customer) r.parts ++ ns) all.0
            ∙ append-nil (map (λ (part : Part). part.customer) r.parts),
        did.done,
        did.reply ∙ (λ i. parted_reply r.parts (next_left d whom (all.0 i)) (all.1 i)),
      ))
      (λ (want : IsWant may r × (t' ≡ t)). absurd (none no_memory want.0.0)) h

  -- no answer has the status of faults
  pub never_503 : (t t' : Tables) (at : ℕ) (called : Result Asked Refusal) (r : SeenReply) →
      IsAnsweredTo host d t at called r t' → eqb r.status 503 ≡ false
  never_503 t t' at (Err refusal) r h = ap (λ (x : SeenReply). eqb x.status 503) h.0
      ∙ answer_not_struck (answer_number (Refused refusal))
  never_503 t t' at (Ok (CallOf name call)) r h = ap (λ (x : SeenReply). eqb x.status 503) h.0
      ∙ answer_not_struck (answer_number (shared host (entry_of d name) t at call).0)
  never_503 t t' at (Ok (CallOfAll whom call)) r h = ap (λ (x : SeenReply). eqb x.status 503) h.2

  asked_parts : (at : ℕ) (call : Call) (parts : List Part) →
      map as_asked (map (of_part at call) parts)
      ≡ map (unheard_call at call) (map (λ (part : Part). part.customer) parts)
  asked_parts at call [] = refl
  asked_parts at call (p ∷ ps) =
      ap (λ us. unheard_call at call p.customer ∷ us) (asked_parts at call ps)

  -- what was asked was done
  done_once : (t t' : Tables) (at : ℕ) (called : Result Asked Refusal) (r : SeenReply) →
      IsAnsweredTo host d t at called r t' →
      map as_asked (deeds_of at called r) ≡ calls_asked d at called
  done_once t t' at (Err refusal) r h = refl
  done_once t t' at (Ok (CallOf name call)) r h =
      let deed : Deed = record {
        customer = name;
        at = at;
        call = call;
        in_part = false;
        told = Whole r;
      } in
      ap (λ (b : Bool). map as_asked (cond b [] (deed ∷ [])))
      (never_503 t t' at (Ok (CallOf name call)) r h)
  done_once t t' at (Ok (CallOfAll whom call)) r h = asked_parts at call r.parts
      ∙ ap (map (unheard_call at call)) (sym h.0)

  pub all_done : (t t' : Tables) (asks : List Ask) (rs : List SeenReply) →
      AllReplied may host d t asks rs t' →
      map as_asked (deeds asks rs) ≡ flat_map (λ (a : Ask). calls_asked d a.at a.called) asks
  all_done t t' [] [] h = refl
  all_done t t' [] (r ∷ rs) h = absurd h
  all_done t t' (a ∷ asks) [] h = absurd h
  all_done t t' (a ∷ asks) (r ∷ rs) h =
      map-append as_asked (deeds_of a.at a.called r) (deeds asks rs)
      ∙ (λ i. done_once t h.0 a.at a.called r (answered t h.0 a.at a.called r h.1) i
      ++ all_done h.0 t' asks rs h.2 i)
