use Rattle.std.proofs.Common.{ap, ◌∙◌}
use Rattle.hq_sockets.specs.Held.{client_at}
use Rattle.hq_sockets.proofs.Held.{none_more}
use Rattle.hq_sockets.proofs.slots.Slots.new.Goals as goal

pub loop-init : goal.loop-init
loop-init g c = λ n. ap (λ held. client_at held n) c.none-held.ensures.items

pub loop-preserved : goal.loop-preserved
loop-preserved g c = λ n.
    ap (λ held. client_at held n) c.in-Ok.ensures.items
    ∙ none_more c.loop.held.items c.loop.invariant n

pub returns : goal.returns
returns g c = c.loop.invariant
