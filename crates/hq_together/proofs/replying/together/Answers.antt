use Rattle.std.proofs.Common.{map, ap, ◌∙◌}
use Rattle.hq_wire.specs.Exchanges.{ask_of}
use Rattle.hq_together.proofs.OnDesks.{built}
use Rattle.hq_together.proofs.Served.{stood, went_back}
use Rattle.hq_together.proofs.replying.together.Goals as goal

pub returns-then-stands-clause-stands : goal.returns-then-stands-clause-stands
returns-then-stands-clause-stands g c =
    let d = c.args.directory.now in
    let asks = map (ask_of d) c.args.exchanges.now in
    let so = c.in-Ok-replies.ensures.served in
    let sight = g.S.Shelf.sight in
    record {
      told = so.told;
      sent = so.sent;
      served = stood _ _ d _ c.args.desk c.new-desk.result asks so.told c.settle-stands.result.0
          (built g.M.Memory.refused sight _ d g.met.S.Rounds.same_faults c.args.desk
          c.new-desk.result c.new-inside.result c.run-replies.new.desk asks so.told _ _ _ _ _ _
          c.into_parts-shelf.ensures.shelf
          (c.faults-faults.ensures ∙ ap sight.fault_count c.into_parts-shelf.ensures.shelf)
          c.in-Ok.ensures.begun c.new-inside.ensures.shelf
          (c.new-inside.ensures.host ∙ c.into_parts-shelf.ensures.host) so.served
          c.into_parts-round.ensures.shelf c.settle-stands.ensures c.new-desk.ensures.shelf
          (c.new-desk.ensures.host ∙ c.into_parts-round.ensures.host)) c.if-stands.true;
    }

pub returns-else-stands-clause-back : goal.returns-else-stands-clause-back
returns-else-stands-clause-back g c =
    let d = c.args.directory.now in
    let asks = map (ask_of d) c.args.exchanges.now in
    let so = c.in-Ok-replies.ensures.served in
    let sight = g.S.Shelf.sight in
    went_back _ _ d _ c.args.desk c.new-desk.result asks so.told c.settle-stands.result.0
    (built g.M.Memory.refused sight _ d g.met.S.Rounds.same_faults c.args.desk
    c.new-desk.result c.new-inside.result c.run-replies.new.desk asks so.told _ _ _ _ _ _
    c.into_parts-shelf.ensures.shelf
    (c.faults-faults.ensures ∙ ap sight.fault_count c.into_parts-shelf.ensures.shelf)
    c.in-Ok.ensures.begun c.new-inside.ensures.shelf
    (c.new-inside.ensures.host ∙ c.into_parts-shelf.ensures.host) so.served
    c.into_parts-round.ensures.shelf c.settle-stands.ensures c.new-desk.ensures.shelf
    (c.new-desk.ensures.host ∙ c.into_parts-round.ensures.host)) c.if-stands.false
