-- The number that an answer is told by.
use Rattle.std.specs.Prelude.{ℕ}
use Rattle.hq_values.specs.Refusals.{refusal_number}
use Rattle.hq_rules.specs.declared.answer.Answer.{Answer}
use Rattle.hq_rules.specs.declared.answer.Answer.TheVariants.{Refused}

-- 0, or the refusal's number
abbrev pub answer_number : Answer → ℕ
answer_number (Refused refusal) = refusal_number refusal
answer_number _ = 0
