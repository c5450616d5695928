use Rattle.std.proofs.Common.{refl}
use Rattle.hq_rules.specs.Decision.{decide}
use Rattle.hq_laws.proofs.Foreseen.{as_foreseen}
use Rattle.hq_laws.proofs.submissions.a_submission_is_answered_as_foreseen.Goals as goal

pub returns-clause-kept : goal.returns-clause-kept
unfolding decide
returns-clause-kept c = λ host entry t at envelope. refl

pub returns-clause-answer : goal.returns-clause-answer
returns-clause-answer c = as_foreseen
