use Rattle.std.proofs.Common.{[], ◌++◌, sym, append-nil}
use Rattle.hq_sockets.specs.Slots.{told}
use Rattle.hq_sockets.specs.declared.clients.Phase.TheVariants.{Leaving}
use Rattle.hq_sockets.proofs.Talked.{came_more}
use Rattle.hq_sockets.proofs.Turns.{asks_on, some_read, stays}
use Rattle.hq_sockets.proofs.clients.throw_away.Goals as goal

pub loop-init : goal.loop-init
loop-init g c = λ first one got response talked asks. (got, talked, asks)

pub returns-in-None : goal.returns-in-None
returns-in-None g c = λ first one got response talked asks.
    let so = c.loop.invariant first one got response talked asks in
    let read = some_read g.M.Memory.refused g.C.Connection.talks g.C.Connection.ends c.loop.stream
    c.read_some.new.stream c.read_some.new.chunk c.read_some.result c.read_some.ensures in (
      so.0 ++ read.0,
      response,
      [],
      came_more g.C.Connection.talks g.C.Connection.talks_on first c.loop.stream
          c.read_some.new.stream so.0 read.0 response so.1 read.1,
      asks_on g.M.Memory.refused g.C.Connection.talks g.C.Connection.ends first so.0 read.0
          one.asked so.2,
      sym (append-nil response),
    )

pub returns-in-Waits : goal.returns-in-Waits
returns-in-Waits g c = λ first one got response talked asks.
    let so = c.loop.invariant first one got response talked asks in
    let read = some_read g.M.Memory.refused g.C.Connection.talks g.C.Connection.ends c.loop.stream
    c.read_some.new.stream c.read_some.new.chunk c.read_some.result c.read_some.ensures in
    stays g.M.Memory.refused g.C.Connection.talks g.C.Connection.ends (told first one response)
    c.leaver.result
    c.read_some.new.stream (Leaving c.loop.left) c.leaver.ensures.0 c.leaver.ensures.1 (
      so.0 ++ read.0,
      came_more g.C.Connection.talks g.C.Connection.talks_on first c.loop.stream
          c.read_some.new.stream so.0 read.0 response so.1 read.1,
      asks_on g.M.Memory.refused g.C.Connection.talks g.C.Connection.ends first so.0 read.0
          one.asked so.2,
    )

pub returns-in-Closed : goal.returns-in-Closed
returns-in-Closed g c = λ first one got response talked asks.
    let so = c.loop.invariant first one got response talked asks in
    let read = some_read g.M.Memory.refused g.C.Connection.talks g.C.Connection.ends c.loop.stream
    c.read_some.new.stream c.read_some.new.chunk c.read_some.result c.read_some.ensures in (
      so.0 ++ read.0,
      response,
      [],
      came_more g.C.Connection.talks g.C.Connection.talks_on first c.loop.stream
          c.read_some.new.stream so.0 read.0 response so.1 read.1,
      asks_on g.M.Memory.refused g.C.Connection.talks g.C.Connection.ends first so.0 read.0
          one.asked so.2,
      sym (append-nil response),
    )

pub loop-preserved : goal.loop-preserved
loop-preserved g c = λ first one got response talked asks.
    let so = c.loop.invariant first one got response talked asks in
    let read = some_read g.M.Memory.refused g.C.Connection.talks g.C.Connection.ends c.loop.stream
    c.read_some.new.stream c.read_some.new.chunk c.read_some.result c.read_some.ensures in (
      so.0 ++ read.0,
      came_more g.C.Connection.talks g.C.Connection.talks_on first c.loop.stream
          c.read_some.new.stream so.0 read.0 response so.1 read.1,
      asks_on g.M.Memory.refused g.C.Connection.talks g.C.Connection.ends first so.0 read.0
          one.asked so.2,
    )

pub returns : goal.returns
returns g c = λ first one got response talked asks.
    let so = c.loop.invariant first one got response talked asks in
    stays g.M.Memory.refused g.C.Connection.talks g.C.Connection.ends (told first one response)
    c.leaver-2.result
    c.loop.stream (Leaving c.loop.left) c.leaver-2.ensures.0 c.leaver-2.ensures.1
    (so.0, so.1, so.2)
