-- Which answers sweeps have, whatever was read.
use Rattle.std.proofs.Common.{ℕ, ◌+◌, Bool, true, false, cond, List, map, length, inl, inr, refl}
use Rattle.std.specs.Prelude.{nat_lt}
use Rattle.hq_kept.specs.declared.account.Entry.{Entry}
use Rattle.hq_kept.specs.declared.account.Head.{Head}
use Rattle.hq_kept.specs.declared.message.Message.{Message}
use Rattle.hq_values.specs.declared.failure.Refusal.TheVariants.{NoticesSpent}
use Rattle.hq_rules.specs.Admission.{spent}
use Rattle.hq_rules.specs.Answering.{refuse}
use Rattle.hq_rules.specs.Desks.{IsAnswerTo}
use Rattle.hq_rules.specs.Notices.{carried_out}
use Rattle.hq_rules.specs.Sweeps.{is_none_changed, message_met, messages_that, swept_all, sweep}
use Rattle.hq_rules.specs.Sweeps.{sweep_with}
use Rattle.hq_rules.specs.declared.call.Call.TheVariants.{Sweep}
use Rattle.hq_rules.specs.declared.decision.Decision.{Decision}
use Rattle.hq_rules.specs.declared.plan.Plan.{Plan}
use Rattle.hq_rules.specs.declared.swept.Swept.{Swept}
use Rattle.hq_rules.specs.declared.swept.Swept.TheVariants.{Expired, Warned}

abbrev IsTold : Decision → Type 0
IsTold decision = IsAnswerTo Sweep decision.answer

either : (b : Bool) (x y : Decision) → IsTold x → IsTold y → IsTold (cond b x y)
either true x y told other = told
either false x y told other = other

rows_answered : (host : List ℕ) (entry : Entry) (at : ℕ) (head : Head)
    (rows : List (Message × Swept)) (expired warned : ℕ) →
    IsTold (sweep_with host entry at head rows expired warned)
rows_answered host entry at head rows expired warned =
    let plan : Plan = swept_all head rows expired warned in
    either (is_none_changed expired warned) _ _ (inl (_, refl))
    (either (nat_lt spent (plan.head.next_notice + length plan.drafts)) (refuse NoticesSpent) _
    (inr refl) (inl (_, refl)))

-- a sweep is answered with counts, or with 44
pub sweep_answered : (host : List ℕ) (entry : Entry) (at : ℕ) (head : Head)
    (messages : List Message) → IsAnswerTo Sweep (sweep host entry at head messages).answer
sweep_answered host entry at head messages =
    let rows = map (message_met at entry.delay) messages in
    rows_answered host entry at head rows (messages_that Expired rows) (messages_that Warned rows)
