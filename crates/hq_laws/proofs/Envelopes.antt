-- A body that reads as a submission has its envelope.
use Rattle.std.proofs.Common.{◌≡◌, codes, Ok, ap, ◌∙◌}
use Rattle.serde_json.specs.Data.{Data}
use Rattle.serde_json.specs.Find.{as_object}
use Rattle.hq_values.specs.Readers.{◌>>=◌, guard, or_refuse}
use Rattle.hq_values.specs.Words.{spool_in}
use Rattle.hq_values.specs.declared.failure.Refusal.TheVariants.{BadField}
use Rattle.hq_rules.specs.Submissions.{envelope_of}
use Rattle.hq_rules.specs.declared.call.Submission.{Submission}
use Rattle.hq_bodies.specs.Reading.{has_only_members, text_at}
use Rattle.hq_bodies.specs.Submissions.{fields_of, submission_of, envelope_fields_of, envelope_in}
use Rattle.hq_bodies.specs.Submissions.{names, Fields}
use Rattle.hq_laws.proofs.Showing.{went_on, same_ok}

fields_too : (d : Data) (f : Fields) → fields_of d ≡ Ok f → envelope_fields_of d ≡ Ok f.envelope
unfolding fields_of
fields_too d f e =
    let known = went_on (guard (has_only_members names (as_object d)) BadField) _ f e in
    let spool = went_on (or_refuse BadField (text_at (codes "spool") d)) _ f known.2 in
    let env = went_on (envelope_fields_of d) _ f spool.2 in
    env.1 ∙ ap (λ (g : Fields). Ok g.envelope) (same_ok _ f env.2)

values_too : (f : Fields) (sub : Submission) → submission_of f ≡ Ok sub →
    envelope_in f.envelope ≡ Ok (envelope_of sub)
unfolding submission_of
values_too f sub e =
    let s = went_on (spool_in f.spool) _ sub e in
    let v = went_on (envelope_in f.envelope) _ sub s.2 in
    v.1 ∙ ap (λ (g : Submission). Ok (envelope_of g)) (same_ok _ sub v.2)

pub envelope_too : (d : Data) (sub : Submission) → (fields_of d >>= submission_of) ≡ Ok sub →
    (envelope_fields_of d >>= envelope_in) ≡ Ok (envelope_of sub)
envelope_too d sub e =
    let f = went_on (fields_of d) submission_of sub e in
    ap (λ r. r >>= envelope_in) (fields_too d f.0 f.1) ∙ values_too f.0 sub f.2
