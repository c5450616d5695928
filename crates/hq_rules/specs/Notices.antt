-- Notices that calls make (bounce(5)): to whom, of what, under which numbers, and which of all are
-- kept. And notices told.
use Rattle.std.specs.Prelude.{ℕ, suc, ◌+◌, ◌-◌, nat_lt, List, [], ◌∷◌, ◌++◌, length, take}
use Rattle.std.specs.Prelude.{if◌then◌else◌, Option, None, Some}
use Rattle.hq_values.specs.declared.failure.Refusal.TheVariants.{NoNotice, NoticesSpent}
use Rattle.hq_values.specs.declared.address.Sender.{Sender}
use Rattle.hq_values.specs.declared.address.Sender.TheVariants.{Null, From}
use Rattle.hq_rules.specs.Admission.{spent}
use Rattle.hq_kept.specs.declared.account.Entry.{Entry}
use Rattle.hq_kept.specs.declared.account.Head.{Head}
use Rattle.hq_kept.specs.declared.message.Message.{Message}
use Rattle.hq_kept.specs.declared.outcome.Told.{Told}
use Rattle.hq_rules.specs.NoticeTexts.{human_text, status_text}
use Rattle.hq_kept.specs.declared.kind.Kind.{Kind}
use Rattle.hq_tables.specs.declared.change.Change.{Change}
use Rattle.hq_tables.specs.declared.change.Change.TheVariants.{PutHead, AddNotice, DropNoticesBelow}
use Rattle.hq_kept.specs.declared.notice.Notice.{Notice}
use Rattle.hq_rules.specs.Answering.{tell, refuse}
use Rattle.hq_rules.specs.Histories.{kept_history}
use Rattle.hq_rules.specs.declared.answer.Answer.TheVariants as answer
use Rattle.hq_rules.specs.declared.decision.Decision.{Decision}
use Rattle.hq_rules.specs.declared.plan.Draft.{Draft}
use Rattle.hq_rules.specs.declared.plan.Plan.{Plan}
use Rattle.hq_rules.specs.Limits.{page_rows}

-- ---- to whom it goes

-- the null sender is told nothing
abbrev pub drafted_to : Sender → Message → Kind → List Told → List Draft
drafted_to Null m kind told = []
drafted_to (From to) m kind told = record { message = m; to = to; kind = kind; told = told } ∷ []

-- a notice to the sender of a message; none where there is nobody to tell of
abbrev pub drafted : Message → Kind → List Told → List Draft
drafted m kind [] = []
drafted m kind (t ∷ ts) = drafted_to m.sender m kind (t ∷ ts)

-- ---- numbers

abbrev pub noticed : List ℕ → ℕ → ℕ → Draft → Notice
noticed host at number d = record {
  number = number;
  kind = d.kind;
  serial = d.message.serial;
  at = at;
  to = d.to;
  human = human_text host d.message d.kind d.told;
  status = status_text host d.message d.kind d.told;
}

-- added in order, under the numbers from this one on
abbrev pub added_from : List ℕ → ℕ → ℕ → List Draft → List Change
added_from host at number [] = []
added_from host at number (d ∷ ds) = AddNotice (noticed host at number d)
    ∷ added_from host at (suc number) ds

-- where notices are added, the newest so many are kept of all; `next` is the number after the last
abbrev pub kept_below : ℕ → ℕ → List Draft → List Change
kept_below quota next [] = []
kept_below quota next (d ∷ ds) = DropNoticesBelow (next - quota) ∷ []

-- a head whose next so many numbers of notices were given out
abbrev pub with_notices : ℕ → Head → Head
with_notices count head = record head { next_notice = head.next_notice + count }

-- ---- a call that makes notices or ends: all of it, or nothing where too few numbers are left

abbrev pub planned : List ℕ → Entry → ℕ → Plan → List Change
planned host entry at plan =
    let head = with_notices (length plan.drafts) plan.head in
    plan.changes ++ PutHead head ∷ (added_from host at plan.head.next_notice plan.drafts
    ++ (kept_below entry.quota.notices head.next_notice plan.drafts
    ++ kept_history entry at head plan.ended))

abbrev pub carried_out : List ℕ → Entry → ℕ → Plan → Decision
carried_out host entry at plan = if nat_lt spent (plan.head.next_notice + length plan.drafts) then
    refuse NoticesSpent else
    record { answer = plan.answer; changes = planned host entry at plan }

-- ---- notices told

abbrev pub show_notice : Option Notice → Decision
show_notice None = refuse NoNotice
show_notice (Some notice) = tell (answer.NoticeShown notice)

-- the first hundred, and whether there are more
abbrev pub notice_page : List Notice → Decision
notice_page ns = tell (answer.NoticesListed (take page_rows ns) (nat_lt page_rows (length ns)))
