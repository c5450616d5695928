use Rattle.std.proofs.Common.{◌≡◌, ◌+◌, refl, arith, ◌∙◌}
use Rattle.hq_serve.proofs.Taking.{none_taken, one_taken}
use Rattle.hq_serve.proofs.rounds.take_round.Goals as goal

pub loop-preserved : goal.loop-preserved
loop-preserved g c =
    let few = c.loop.invariant.1 in
    let more = c.loop-test.true in
    let end = c.min-end.ensures in
    let same = c.take_one.ensures.taken.uncounted in
    let sum = c.saturating_add.ensures in
    let counted : c.saturating_add.result ≡ c.loop.round.taken + 1 =
    omega (arith, few, more, end, same, sum) in (
      one_taken g.K.Clients.does g.K.Clients.does_on g.L.Log.tells g.L.Log.told_on
          g.M.Memory.refused c.args.clients.now c.loop.clients c.next.new.self
          c.take_one.new.clients c.args.log.now c.loop.log c.take_one.new.log c.loop.round
          c.take_one.new.round
          (record {
            taken = c.saturating_add.result;
            clients = c.take_one.new.round.clients;
            exchanges = c.take_one.new.round.exchanges;
          })
          c.in-Some.came counted refl refl c.loop.invariant.0 c.in-Some.ensures.came
          c.take_one.ensures.taken,
      omega (arith, few, counted),
      c.take_one.ensures.left ∙ c.in-Some.ensures.left ∙ c.loop.invariant.2,
    )

pub returns-in_default-clause-taken : goal.returns-in_default-clause-taken
returns-in_default-clause-taken g c =
    none_taken g.K.Clients.does g.K.Clients.does_on g.L.Log.tells g.L.Log.told_on
    g.M.Memory.refused c.args.clients.now c.loop.clients c.next.new.self c.args.log.now c.loop.log
    c.loop.round c.loop.invariant.0 c.in_default.ensures.none

pub returns-then-takes_long-clause-taken : goal.returns-then-takes_long-clause-taken
returns-then-takes_long-clause-taken g c =
    let few = c.loop.invariant.1 in
    let more = c.loop-test.true in
    let end = c.min-end.ensures in
    let same = c.take_one.ensures.taken.uncounted in
    let sum = c.saturating_add.ensures in
    let counted : c.saturating_add.result ≡ c.loop.round.taken + 1 =
    omega (arith, few, more, end, same, sum) in
    one_taken g.K.Clients.does g.K.Clients.does_on g.L.Log.tells g.L.Log.told_on
    g.M.Memory.refused c.args.clients.now c.loop.clients c.next.new.self c.take_one.new.clients
    c.args.log.now c.loop.log c.take_one.new.log c.loop.round c.take_one.new.round
    (record {
      taken = c.saturating_add.result;
      clients = c.take_one.new.round.clients;
      exchanges = c.take_one.new.round.exchanges;
    })
    c.in-Some.came counted refl refl c.loop.invariant.0 c.in-Some.ensures.came
    c.take_one.ensures.taken
