use Rattle.std.proofs.Common.{[], refl}
use Rattle.hq_values.specs.Turns.{InTurn}
use Rattle.hq_values.proofs.Turns.{turns_on}
use Rattle.hq_wire.specs.Exchanges.{with_refusals}
use Rattle.hq_lines.specs.Rounds.{OneEach}
use Rattle.hq_lines.proofs.Steps.{none_taken}
use Rattle.hq_batch.specs.Steps.{LineStep}
use Rattle.hq_batch.proofs.front.FrontAnswers.answer_waiting.Goals as goal

pub returns-clause-answered : goal.returns-clause-answered
returns-clause-answered g c =
    let one = OneEach (LineStep (with_refusals g.M.Memory.refused g.D.Acts.sight)
    g.L.Log.tells) in
    none_taken (InTurn one) (λ state. refl) (turns_on one) (λ state. []) _ _
