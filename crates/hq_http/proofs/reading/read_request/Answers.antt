use Rattle.std.proofs.Common.{subst, ◌∙◌}
use Rattle.hq_http.specs.Turns.{MoreIs}
use Rattle.hq_http.proofs.reading.read_request.Goals as goal

pub loop-next-preserved : goal.loop-next-preserved
loop-next-preserved g c =
    let first = c.args.reads.now in
    let more = MoreIs g.M.Memory.refused g.R.Read.remaining first c.read_more.new.reads in (
      c.in-Ok-Again.ensures.same_reference ∙ c.loop-next.invariant.0,
      subst more c.in-Ok-Again.field-0-is
          (c.in-Ok-Again.ensures.turn first c.loop-next.invariant.1),
    )

pub returns-in-Ok-Done-clause-told : goal.returns-in-Ok-Done-clause-told
returns-in-Ok-Done-clause-told g c =
    (subst (MoreIs g.M.Memory.refused g.R.Read.remaining c.args.reads.now
    c.read_more.new.reads)
    c.in-Ok-Done.field-0-is
    (c.in-Ok-Done.ensures.turn c.args.reads.now c.loop-next.invariant.1)).0

pub returns-in-Ok-Done-clause-last : goal.returns-in-Ok-Done-clause-last
returns-in-Ok-Done-clause-last g c =
    (subst (MoreIs g.M.Memory.refused g.R.Read.remaining c.args.reads.now
    c.read_more.new.reads)
    c.in-Ok-Done.field-0-is
    (c.in-Ok-Done.ensures.turn c.args.reads.now c.loop-next.invariant.1)).1

pub returns-in-Ok-Done-clause-room : goal.returns-in-Ok-Done-clause-room
returns-in-Ok-Done-clause-room g c =
    (subst (MoreIs g.M.Memory.refused g.R.Read.remaining c.args.reads.now
    c.read_more.new.reads)
    c.in-Ok-Done.field-0-is
    (c.in-Ok-Done.ensures.turn c.args.reads.now c.loop-next.invariant.1)).2

pub returns-in-Err-clause-fault : goal.returns-in-Err-clause-fault
returns-in-Err-clause-fault g c =
    c.in-Err.ensures.fault c.args.reads.now c.loop-next.invariant.1
