-- What is said of any desk.
use Rattle.std.specs.Prelude.{ℕ, ◌≡◌, ◌⊎◌, ⊤, false, true, List}
use Rattle.hq_values.specs.Refusals.{no_memory}
use Rattle.hq_values.specs.declared.failure.Refusal.TheVariants.{NoticesSpent}
use Rattle.hq_kept.specs.declared.account.Entry.{Entry}
use Rattle.hq_tables.specs.Shelves.{Sight, StaysInRound, StopLeavesTables, StopLeavesNoMore}
use Rattle.hq_tables.specs.Tables.{Tables}
use Rattle.hq_rules.specs.Answers.{answer_number}
use Rattle.hq_rules.specs.Machine.{shared}
use Rattle.hq_rules.specs.declared.answer.Answer.{Answer}
use Rattle.hq_rules.specs.declared.answer.Answer.TheVariants.{Refused, Swept, Used}
use Rattle.hq_rules.specs.declared.answer.SweepCounts.{SweepCounts}
use Rattle.hq_rules.specs.declared.answer.Usage.{Usage}
use Rattle.hq_rules.specs.declared.call.Call.{Call}
use Rattle.hq_rules.specs.declared.call.Call.TheVariants as call
use Rattle.hq_rules.specs.declared.render.Rendered.{Rendered}

-- What is seen of a desk.
pub record DeskSight (D : Type 0) : Type 1 where
  -- what is seen of the store that it stands on
  pub store : Sight D
  -- the name of its relay
  pub host : D → List ℕ

-- The calls of a desk may also end in want of memory, for this reason alone.
abbrev pub or_memory : {D : Type 0} → Type 0 → Sight D → Sight D
or_memory refused store = record store {
  may_answer = λ fault. ((fault ≡ no_memory) × refused) ⊎ store.may_answer fault;
}

-- ---- which answers a call has, whatever the store is

-- the answer to a sweep tells counts or 44, and that to a usage tells it; of others nothing is said
abbrev pub IsAnswerTo : Call → Answer → Type 0
IsAnswerTo call.Sweep answer = ((counts : SweepCounts) × (answer ≡ Swept counts))
    ⊎ (answer ≡ Refused NoticesSpent)
IsAnswerTo call.Usage answer = (usage : Usage) × (answer ≡ Used usage)
IsAnswerTo _ answer = ⊤

-- each answer to the call is one of these
abbrev pub AnswersAre : (Answer → Type 0) → Call → Type 0
AnswersAre takes call = (answer : Answer) → IsAnswerTo call answer → takes answer

-- What calls keep of a desk, whatever they answered.
pub record Stays {D : Type 0} (sight : DeskSight D) (old new : D) : Type 0 where
  -- the rows stay those of the tables; after Closed nothing is said of them
  pub ours : sight.store.is_clean new → sight.store.is_ours old →
      sight.store.is_closed new ≡ false → sight.store.is_ours new
  -- it stays in its round
  pub round : sight.store.is_clean new →
      sight.store.is_ours old ⊎ (sight.store.is_closed old ≡ true) →
      StaysInRound sight.store old new
  -- what is clean now was clean
  pub quiet : sight.store.is_clean new → sight.store.is_clean old
  -- what is open now was open
  pub stays_open : sight.store.is_closed new ≡ false → sight.store.is_closed old ≡ false
  pub host : sight.host new ≡ sight.host old
  -- while the desk is open, a stop leaves its tables
  pub rests : sight.store.is_clean new → sight.store.is_ours old →
      sight.store.is_closed new ≡ false → StopLeavesTables sight.store old →
      StopLeavesTables sight.store new
  -- one that was closed changes nothing
  pub shut : sight.store.is_clean new → sight.store.is_closed old ≡ true →
      StopLeavesNoMore sight.store old new

-- what the shared step makes of its tables: the answer, and the tables afterwards
abbrev pub stepped : {D : Type 0} → DeskSight D → D → Entry → ℕ → Call → Answer × Tables
stepped sight desk entry at call =
    shared (sight.host desk) entry (sight.store.tables desk) at call

-- an answer with its number and its one text
abbrev pub IsRendered : (Answer → List ℕ) → Answer → Rendered → Type 0
IsRendered text answer rendered = (rendered.number ≡ answer_number answer)
    × (rendered.bytes.items ≡ text answer)

-- some answer with its number and its one text, which fits
abbrev pub IsSomeAnswer : (Answer → List ℕ) → (Answer → List ℕ → Type 0) → Rendered → Type 0
IsSomeAnswer text fits rendered = (answer : Answer) × IsRendered text answer rendered
    × fits answer rendered.bytes.items
