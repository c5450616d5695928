use Rattle.std.proofs.Common.{◌≡◌, ◌+◌}
use Rattle.sqlite.specs.Held.{state}
use Rattle.hq_sql_notices.proofs.Adding.{Added}
use Rattle.hq_sql_notices.proofs.ends.put.Given as goal

abbrev pub invariant-loop-ended : goal.invariant-loop-ended
invariant-loop-ended g l = record {
  number : l.number ≡ l.before + l.ended-index;
  added : Added (state g.S.Store l.fn.conn) (state g.S.Store l.conn) l.customer l.ends.at l.before
      l.ends.ended l.ended-index;
}
