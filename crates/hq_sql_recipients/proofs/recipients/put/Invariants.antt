use Rattle.std.proofs.Common.{◌≡◌}
use Rattle.sqlite.specs.Held.{state}
use Rattle.hq_sql_recipients.proofs.Loop.{Placed}
use Rattle.hq_sql_recipients.proofs.recipients.put.Given as goal

abbrev pub invariant-loop-recipient : goal.invariant-loop-recipient
invariant-loop-recipient g l = record {
  last : l.last ≡ l.recipient-index;
  placed : Placed (state g.S.Store l.fn.conn) (state g.S.Store l.conn) l.customer l.serial l.pending
      l.rows.items l.last;
}
