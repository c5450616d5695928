use Rattle.std.proofs.Common.{[], ◌++◌, take, subst, sym}
use Rattle.hq_http.specs.Gathered.{IsGathered}
use Rattle.hq_sockets.specs.Slots.{asking}
use Rattle.hq_sockets.specs.declared.clients.Phase.TheVariants.{Asking}
use Rattle.hq_sockets.proofs.Talked.{came_more, nothing_more}
use Rattle.hq_sockets.proofs.Turns.{asks_done, asks_end, stays}
use Rattle.hq_sockets.proofs.clients.gather.Goals as goal
use Rattle.hq_sockets.proofs.clients.gather.Goals.{in-Bytes+in-Open, in-Again}

pub loop-init : goal.loop-init
loop-init g c = λ first got talked gathers. (got, talked, gathers)

pub returns-in-Done : goal.returns-in-Done
returns-in-Done g c = λ first got talked gathers.
    let so = c.loop.invariant first got talked gathers in
    let more = take c.in-Bytes.count c.read_some.new.chunk in
    c.asked.ensures first (so.0 ++ more)
    (came_more g.C.Connection.talks g.C.Connection.talks_on first c.loop.stream
    c.read_some.new.stream so.0 more [] so.1 c.in-Bytes.ensures.2)
    (asks_done g.M.Memory.refused g.C.Connection.talks g.C.Connection.ends first (so.0 ++ more)
    c.in-Done.input (c.in-Done.ensures so.0 so.2))

pub returns-in-Waits : goal.returns-in-Waits
returns-in-Waits g c = λ first got talked gathers.
    let so = c.loop.invariant first got talked gathers in
    stays g.M.Memory.refused g.C.Connection.talks g.C.Connection.ends (asking first)
    c.asking_client.result
    c.read_some.new.stream (Asking c.loop.gathering) c.asking_client.ensures.0
    c.asking_client.ensures.1 (
      so.0,
      nothing_more g.C.Connection.talks g.C.Connection.talks_on first c.loop.stream
          c.read_some.new.stream so.0 [] so.1 c.in-Waits.ensures,
      so.2,
    )

pub returns-in-Closed : goal.returns-in-Closed
returns-in-Closed g c = λ first got talked gathers.
    let so = c.loop.invariant first got talked gathers in
    let now = nothing_more g.C.Connection.talks g.C.Connection.talks_on first c.loop.stream
    c.read_some.new.stream so.0 [] so.1 c.in-Closed.ensures.0 in
    c.asked-in-Closed.ensures first so.0 now
    (asks_end g.M.Memory.refused g.C.Connection.talks g.C.Connection.ends first
    c.read_some.new.stream so.0 c.end-input.result (c.end-input.ensures so.0 so.2) now
    c.in-Closed.ensures.1)

pub returns-in-Failed : goal.returns-in-Failed
returns-in-Failed g c = λ first got talked gathers.
    let so = c.loop.invariant first got talked gathers in (
      so.0,
      nothing_more g.C.Connection.talks g.C.Connection.talks_on first c.loop.stream
          c.read_some.new.stream so.0 [] so.1 c.in-Failed.ensures,
    )

pub loop-preserved : goal.loop-preserved
loop-preserved g c = λ first got talked gathers.
    let so = c.loop.invariant first got talked gathers in
    elim c.match-read_some.branch [
      | in-Bytes+in-Open w ↦
          let more = take w.in-Bytes.count c.read_some.new.chunk in (
            so.0 ++ more,
            came_more g.C.Connection.talks g.C.Connection.talks_on first c.loop.stream
                c.read_some.new.stream so.0 more [] so.1 w.in-Bytes.ensures.2,
            subst (IsGathered (so.0 ++ more)) (sym w.gathering-is) (w.in-Open.ensures so.0 so.2),
          )
      | in-Again w ↦ (
        so.0,
        nothing_more g.C.Connection.talks g.C.Connection.talks_on first c.loop.stream
            c.read_some.new.stream so.0 [] so.1 w.in-Again.ensures,
        subst (IsGathered so.0) (sym w.gathering-is) so.2,
      )
    ]

pub returns : goal.returns
returns g c = λ first got talked gathers.
    let so = c.loop.invariant first got talked gathers in
    stays g.M.Memory.refused g.C.Connection.talks g.C.Connection.ends (asking first)
    c.asking_client-2.result
    c.loop.stream (Asking c.loop.gathering) c.asking_client-2.ensures.0
    c.asking_client-2.ensures.1 (so.0, so.1, so.2)
