use Rattle.std.proofs.Common.{◌≡◌}
use Rattle.sqlite.specs.Held.{state}
use Rattle.sqlite.specs.Values.{bound}
use Rattle.hq_sql.proofs.Walking.{Walks}
use Rattle.hq_sql.proofs.lent.walk.Given as goal

abbrev pub invariant-rows : goal.invariant-rows
invariant-rows g l = record {
  same_reference : l.rows.conn.ghost_name ≡ l.initial.rows.conn.ghost_name;
  walks : Walks g.S.Store g.T.Taker.takes l.sql (bound l.params) (state g.S.Store l.fn.conn)
      l.rows.conn.now l.fn.taker l.taker;
}
