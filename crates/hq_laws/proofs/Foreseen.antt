-- A submission is answered what its envelope was.
use Rattle.std.proofs.Common.{◌≡◌, ℕ, List, [], ◌∷◌, map, Option, None, Result, Ok, Err, refl, ap}
use Rattle.std.proofs.Common.{◌∙◌}
use Rattle.hq_values.specs.declared.failure.Refusal.{Refusal}
use Rattle.hq_kept.specs.declared.account.Entry.{Entry}
use Rattle.hq_kept.specs.declared.account.Head.{Head}
use Rattle.hq_kept.specs.declared.message.Message.{Message}
use Rattle.hq_kept.specs.declared.message.Pending.{Pending}
use Rattle.hq_tables.specs.Readings.{read_tables}
use Rattle.hq_tables.specs.Tables.{Tables}
use Rattle.hq_rules.specs.Admission.{admitted}
use Rattle.hq_rules.specs.Decision.{decide}
use Rattle.hq_rules.specs.Machine.{shared}
use Rattle.hq_rules.specs.Submissions.{distinct, envelope_of, first_state, judged, not_tried}
use Rattle.hq_rules.specs.Submissions.{origin_of, receivers, settled, submit, without_id}
use Rattle.hq_rules.specs.Submissions.{would_answer}
use Rattle.hq_rules.specs.declared.answer.Answer.TheVariants as answer
use Rattle.hq_rules.specs.declared.call.Call.TheVariants as call
use Rattle.hq_rules.specs.declared.call.Origin.{Origin}
use Rattle.hq_rules.specs.declared.call.Submission.{Submission}
use Rattle.hq_rules.specs.declared.verdict.Verdict.{Verdict}
use Rattle.hq_rules.specs.declared.verdict.Verdict.TheVariants as verdict

-- a new message goes to whom it was made for
same_receivers : (addresses : List (List ℕ)) →
    map (λ (p : Pending). p.address) (map not_tried addresses) ≡ addresses
same_receivers [] = refl
same_receivers (address ∷ addresses) = ap (λ rest. address ∷ rest) (same_receivers addresses)

-- what is answered tells what would be
as_settled : (head : Head) (at : ℕ) (origin : Origin) (serial : Result ℕ Refusal) (v : Verdict) →
    without_id (settled head at origin serial v).answer ≡ would_answer serial v
as_settled head at origin serial (verdict.Rejected refused) = refl
as_settled head at origin serial (verdict.Discarded refused) = refl
as_settled head at origin (Err refusal) (verdict.Queue kept refused redirect held) = refl
as_settled head at origin (Ok serial) (verdict.Queue kept refused redirect held) =
    ap (λ addresses. answer.Admissible addresses refused (first_state held))
    (same_receivers (receivers kept redirect))

pub as_foreseen : (host : List ℕ) (entry : Entry) (t : Tables) (at later : ℕ) (sub : Submission) →
    (read_tables entry.name t).by_spool sub.spool ≡ None →
    without_id (shared host entry (shared host entry t at (call.Admit (envelope_of sub))).1 later
    (call.Submit sub)).0 ≡ (shared host entry t at (call.Admit (envelope_of sub))).0
unfolding decide
as_foreseen host entry t at later sub new =
    let readings = read_tables entry.name t in
    ap (λ (m : Option Message). without_id (submit entry readings later sub m).answer) new
    ∙ as_settled readings.head later (origin_of sub)
    (admitted readings.head entry.quota readings.counts sub.size)
    (judged readings sub.sender (distinct sub.recipients))
