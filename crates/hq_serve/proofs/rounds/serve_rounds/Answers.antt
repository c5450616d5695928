use Rattle.std.proofs.Common.{◌≡◌, ◌+◌, arith, subst}
use Rattle.hq_desk.specs.Desks.{on}
use Rattle.hq_serve.specs.Coming.{EndsWith}
use Rattle.hq_serve.specs.declared.coming.ServiceEnd.TheVariants.{Clock}
use Rattle.hq_serve.proofs.InRounds.{ends, even, is_over, none_done, one_more, waited}
use Rattle.hq_serve.proofs.rounds.serve_rounds.Goals as goal

pub loop-init : goal.loop-init
loop-init g c = (
  omega arith,
  none_done g.M.Memory.refused (on g.S.Shelf.sight) c.args.directory.now g.K.Clients.does
      g.L.Log.tells c.args.clients.now c.args.log.now c.args.desk
      (g.K.Clients.none_does c.args.clients.now) (g.L.Log.none_told c.args.log.now),
)

pub returns-in-Over : goal.returns-in-Over
returns-in-Over g c =
    let few = c.loop.invariant.0 in
    let fewer = c.ready-ready.ensures.fewer in
    ends g.M.Memory.refused (on g.S.Shelf.sight) c.args.directory.now g.K.Clients.does
    g.L.Log.tells
    (g.K.Clients.left c.args.clients.now) (g.K.Clients.left c.ready-ready.new.self) c.loop.done
    c.in-Over.end c.args.clients.now c.ready-ready.new.self c.args.log.now c.loop.log c.args.desk
    c.loop.desk
    (omega (arith, few, fewer))
    (waited g.M.Memory.refused (on g.S.Shelf.sight) c.args.directory.now g.K.Clients.does
    g.L.Log.tells g.K.Clients.does_on g.L.Log.told_on c.loop.done c.args.clients.now
    c.loop.clients c.ready-ready.new.self c.args.log.now c.loop.log c.args.desk c.loop.desk
    c.loop.invariant.1 c.ready-ready.ensures.nothing)
    (λ came counted. is_over (g.K.Clients.left c.ready-ready.new.self) c.in-Over.end came
    c.loop.done (rw c.in-Over.is at c.ready-ready.ensures.ready))

pub loop-preserved-then-most-eq0 : goal.loop-preserved-then-most-eq0
loop-preserved-then-most-eq0 g c =
    let few = c.loop.invariant.0 in
    let fewer = c.ready-ready.ensures.fewer in (
      omega (arith, few, fewer),
      waited g.M.Memory.refused (on g.S.Shelf.sight) c.args.directory.now g.K.Clients.does
          g.L.Log.tells g.K.Clients.does_on g.L.Log.told_on c.loop.done c.args.clients.now
          c.loop.clients c.ready-ready.new.self c.args.log.now c.loop.log c.args.desk c.loop.desk
          c.loop.invariant.1
          c.ready-ready.ensures.nothing,
    )

pub returns-then-eq-2 : goal.returns-then-eq-2
returns-then-eq-2 g c =
    let few = c.loop.invariant.0 in
    let fewer = c.ready-ready.ensures.fewer in
    let coming = c.left-coming.ensures in
    let left = c.left.ensures in
    let came = c.saturating_sub-came.ensures in
    let most = c.saturating_sub-most.ensures in
    let some = c.if-most-eq0.false in
    ends g.M.Memory.refused (on g.S.Shelf.sight) c.args.directory.now g.K.Clients.does
    g.L.Log.tells
    (g.K.Clients.left c.args.clients.now) (g.K.Clients.left c.ready-ready.new.self) c.loop.done
    Clock c.args.clients.now c.ready-ready.new.self c.args.log.now c.loop.log c.args.desk
    c.loop.desk
    (omega (arith, few, fewer))
    (waited g.M.Memory.refused (on g.S.Shelf.sight) c.args.directory.now g.K.Clients.does
    g.L.Log.tells g.K.Clients.does_on g.L.Log.told_on c.loop.done c.args.clients.now
    c.loop.clients c.ready-ready.new.self c.args.log.now c.loop.log c.args.desk c.loop.desk
    c.loop.invariant.1 c.ready-ready.ensures.nothing)
    (λ all counted. omega (arith, few, fewer, coming, left, came, most, some, counted))

pub loop-preserved : goal.loop-preserved
loop-preserved g c =
    let few = c.loop.invariant.0 in
    let fewer = c.ready-ready.ensures.fewer in
    let coming = c.left-coming.ensures in
    let left = c.left.ensures in
    let came = c.saturating_sub-came.ensures in
    let most = c.saturating_sub-most.ensures in
    let bound = c.take_round-round_of.ensures.few in
    let sum = c.saturating_add-done.ensures in
    let limit = c.left-coming.type_inv in
    let stays = c.take_round-round_of.ensures.left in
    let stayed = c.do_round-desk.ensures.left in
    let is : c.saturating_add-done.result ≡ c.loop.done + c.take_round-round_of.result.taken =
    omega (arith, few, fewer, coming, left, came, most, bound, sum, limit) in (
      omega (arith, few, fewer, coming, left, came, most, bound, is, stays, stayed),
      one_more g.M.Memory.refused (on g.S.Shelf.sight) c.args.directory.now g.K.Clients.does
          g.L.Log.tells g.K.Clients.does_on g.L.Log.told_on c.loop.done
          c.saturating_add-done.result c.args.clients.now c.ready-ready.new.self
          c.take_round-round_of.new.clients c.do_round-desk.new.clients c.args.log.now c.loop.log
          c.take_round-round_of.new.log c.do_round-desk.new.log
          c.take_round-round_of.result c.args.desk c.loop.desk c.do_round-desk.result is
          (waited g.M.Memory.refused (on g.S.Shelf.sight) c.args.directory.now g.K.Clients.does
          g.L.Log.tells g.K.Clients.does_on g.L.Log.told_on c.loop.done c.args.clients.now
          c.loop.clients c.ready-ready.new.self c.args.log.now c.loop.log c.args.desk
          c.loop.desk c.loop.invariant.1
          c.ready-ready.ensures.nothing)
          c.take_round-round_of.ensures.taken c.do_round-desk.ensures.replies,
    )

pub returns : goal.returns
returns g c =
    ends g.M.Memory.refused (on g.S.Shelf.sight) c.args.directory.now g.K.Clients.does
    g.L.Log.tells
    (g.K.Clients.left c.args.clients.now) (g.K.Clients.left c.loop.clients) c.loop.done
    c.end_of.result c.args.clients.now c.loop.clients c.args.log.now c.loop.log c.args.desk
    c.loop.desk
    c.loop.invariant.0 c.loop.invariant.1
    (λ came counted. is_over (g.K.Clients.left c.loop.clients) c.end_of.result came c.loop.done
    (subst (λ n. EndsWith n c.end_of.result) c.left-2.ensures c.end_of.ensures))

pub do_round-desk-requires : goal.do_round-desk-requires
do_round-desk-requires g c =
    even g.M.Memory.refused (on g.S.Shelf.sight) c.args.directory.now g.K.Clients.does
    g.L.Log.tells c.ready-ready.new.self c.take_round-round_of.new.clients c.loop.log
    c.take_round-round_of.new.log c.take_round-round_of.result
    c.take_round-round_of.ensures.taken
