-- Decisions that change nothing.
use Rattle.std.specs.Prelude.{[]}
use Rattle.hq_values.specs.declared.failure.Refusal.{Refusal}
use Rattle.hq_rules.specs.declared.answer.Answer.{Answer}
use Rattle.hq_rules.specs.declared.answer.Answer.TheVariants as answer
use Rattle.hq_rules.specs.declared.decision.Decision.{Decision}

-- an answer that changes nothing
abbrev pub tell : Answer → Decision
tell answer = record { answer = answer; changes = [] }

abbrev pub refuse : Refusal → Decision
refuse refusal = tell (answer.Refused refusal)
