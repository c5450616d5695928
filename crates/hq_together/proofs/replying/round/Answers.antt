use Rattle.std.proofs.Common.{map, subst, sym}
use Rattle.std.specs.Prelude.{IfNone}
use Rattle.hq_desk.specs.Desks.{on}
use Rattle.hq_wire.specs.Exchanges.{ask_of, with_refusals}
use Rattle.hq_wire.specs.Runs.{RunsSo}
use Rattle.hq_together.specs.Together.{GoesBack, RoundSo}
use Rattle.hq_together.proofs.Served.{each_by_itself, err_map, ok_map, stayed}
use Rattle.hq_together.proofs.replying.round.Given.{Over}
use Rattle.hq_together.proofs.replying.round.Goals as goal

back : (g : Over) (c : goal.After-one_by_one-in-None g) →
    GoesBack (with_refusals g.M.Memory.refused (on g.S.Shelf.sight)) c.args.directory.now
    c.args.desk (map (ask_of c.args.directory.now) c.args.exchanges.now)
    c.together-replies.result.1
back g c = subst (λ r. IfNone r (GoesBack (with_refusals g.M.Memory.refused (on g.S.Shelf.sight))
    c.args.directory.now c.args.desk (map (ask_of c.args.directory.now) c.args.exchanges.now)
    c.together-replies.result.1)) c.in-None.is c.together-replies.ensures.back

pub returns-in-None-clause-served : goal.returns-in-None-clause-served
returns-in-None-clause-served g c =
    let sight = with_refusals g.M.Memory.refused (on g.S.Shelf.sight) in
    let d = c.args.directory.now in
    let asks = map (ask_of d) c.args.exchanges.now in
    ok_map c.one_by_one-in-None.result.0
    (λ replies. RunsSo sight d c.together-replies.result.1 asks replies.items
    c.one_by_one-in-None.result.1)
    (λ replies. RoundSo sight d c.args.desk asks replies.items c.one_by_one-in-None.result.1)
    (λ replies so. record {
      told = so.told;
      sent = so.sent;
      served = each_by_itself sight d c.args.desk c.together-replies.result.1
          c.one_by_one-in-None.result.1 asks so.told (back g c) so.served;
    }) c.one_by_one-in-None.ensures.served

pub returns-in-None-clause-none : goal.returns-in-None-clause-none
returns-in-None-clause-none g c =
    let sight = with_refusals g.M.Memory.refused (on g.S.Shelf.sight) in
    let d = c.args.directory.now in
    let asks = map (ask_of d) c.args.exchanges.now in
    err_map c.one_by_one-in-None.result.0
    (λ no. (no.1, subst (GoesBack sight d c.args.desk asks) (sym no.0) (back g c)))
    c.one_by_one-in-None.ensures.none

pub returns-then-exchanges-lt2-clause-served : goal.returns-then-exchanges-lt2-clause-served
returns-then-exchanges-lt2-clause-served g c =
    let sight = with_refusals g.M.Memory.refused (on g.S.Shelf.sight) in
    let d = c.args.directory.now in
    let asks = map (ask_of d) c.args.exchanges.now in
    ok_map c.one_by_one.result.0
    (λ replies. RunsSo sight d c.args.desk asks replies.items c.one_by_one.result.1)
    (λ replies. RoundSo sight d c.args.desk asks replies.items c.one_by_one.result.1)
    (λ replies so. record {
      told = so.told;
      sent = so.sent;
      served = each_by_itself sight d c.args.desk c.args.desk c.one_by_one.result.1 asks so.told
          (stayed sight d c.args.desk asks) so.served;
    }) c.one_by_one.ensures.served
