-- The number of a reply is the one that its bytes tell.
use Rattle.std.proofs.Common.{◌≡◌, ℕ, List, Option, None, Some, refl, sym, ap, ◌∙◌, eqb, cond}
use Rattle.std.specs.Prelude.{codes, option_and_then}
use Rattle.std.specs.Str.{chars, is_utf8}
use Rattle.serde_json.specs.Data.{Data}
use Rattle.serde_json.specs.Find.{get, as_number, as_u64}
use Rattle.serde_json.proofs.OnLiterals.{serde_json_on_literals}
use Rattle.hq_values.specs.Refusals.{fault_number, refusal_number}
use Rattle.hq_values.specs.declared.failure.Fault.{Fault}
use Rattle.hq_values.specs.declared.failure.Fault.TheVariants.{WantOfMemory, Disk, BadSchema}
use Rattle.hq_values.specs.declared.failure.Fault.TheVariants.{Closed}
use Rattle.hq_values.specs.declared.failure.Refusal.{Refusal}
use Rattle.hq_values.specs.declared.failure.Refusal.TheVariants.{AttemptAhead, BadCsv}
use Rattle.hq_values.specs.declared.failure.Refusal.TheVariants.{DoubledPattern}
use Rattle.hq_values.specs.declared.failure.Refusal.TheVariants.{BadDirectory, DoubledName}
use Rattle.hq_values.specs.declared.failure.Refusal.TheVariants.{DoubledKey}
use Rattle.hq_bodies.proofs.JsonBodies.{json_of_read}
use Rattle.hq_rules.specs.Answers.{answer_number}
use Rattle.hq_rules.specs.declared.answer.Answer.{Answer}
use Rattle.hq_rules.specs.declared.answer.Answer.TheVariants.{Refused}
use Rattle.hq_json.specs.ReadBack.{ReadsBack}
use Rattle.hq_json.specs.Replies.{refusal_data}
use Rattle.hq_requests.specs.Bodies.{error_told, number_shown}
use Rattle.hq_wire.specs.Replies.{fault_text, status_of}

-- the number in what was read of a body, by its status
abbrev told : ℕ → Option Data → Option ℕ
told status read = cond (eqb status 200) None (option_and_then as_u64
    (option_and_then as_number (option_and_then (get (codes "error")) read)))

of_refusal : (r : Refusal) →
    number_shown (refusal_number r) ≡ told (status_of (refusal_number r)) (Some (refusal_data r))
unfolding status_of
of_refusal (AttemptAhead attempts) = refl
of_refusal (BadCsv row) = refl
of_refusal (DoubledPattern row) = refl
of_refusal (BadDirectory row) = refl
of_refusal (DoubledName row) = refl
of_refusal (DoubledKey row) = refl
of_refusal _ = refl

pub of_answer : (a : Answer) (bytes : List ℕ) → ReadsBack a bytes →
    number_shown (answer_number a) ≡ error_told (status_of (answer_number a)) bytes
unfolding status_of
of_answer (Refused r) bytes back = of_refusal r
    ∙ ap (told (status_of (refusal_number r)))
    (sym (json_of_read bytes (refusal_data r) back.0 back.1))
of_answer _ bytes back = refl

pub of_fault : (fault : Fault) →
    number_shown (fault_number fault) ≡ error_told 503 (fault_text fault)
unfolding serde_json_on_literals is_utf8 chars
of_fault WantOfMemory = refl
of_fault Disk = refl
of_fault BadSchema = refl
of_fault Closed = refl
