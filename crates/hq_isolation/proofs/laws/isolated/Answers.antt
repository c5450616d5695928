use Rattle.std.proofs.Common.{ap}
use Rattle.hq_isolation.proofs.Isolation.{caller, others}
use Rattle.hq_isolation.proofs.laws.isolated.Goals as goal

pub returns-clause-answer : goal.returns-clause-answer
returns-clause-answer c = λ host entry t at call. ap (λ p. p.0) (caller host entry t at call)

pub returns-clause-state : goal.returns-clause-state
returns-clause-state c = λ host entry t at call. ap (λ p. p.1) (caller host entry t at call)

pub returns-clause-others : goal.returns-clause-others
returns-clause-others c = others
