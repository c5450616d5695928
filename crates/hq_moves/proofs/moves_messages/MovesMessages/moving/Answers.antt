use Rattle.std.proofs.Common.{ap, ◌∙◌, length}
use Rattle.hq_moves.proofs.moves_messages.MovesMessages.moving.Goals as goal

pub returns-clause-found : goal.returns-clause-found
returns-clause-found g c = λ clean ours sound.
    ap length (c.as_slice.ensures ∙ c.in_ok-changes.ensures.found clean ours sound)
