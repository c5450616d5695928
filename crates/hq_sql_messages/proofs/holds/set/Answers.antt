use Rattle.sqlite.specs.Held.{state}
use Rattle.hq_keyed.proofs.Left.{clean_before}
use Rattle.hq_sql.proofs.Statements.{renewed}
use Rattle.hq_sql_messages.proofs.OnHolds.{holds_table}
use Rattle.hq_sql_messages.proofs.holds.set.Goals as goal

pub returns-in_ok-insert-2-clause-made : goal.returns-in_ok-insert-2-clause-made
returns-in_ok-insert-2-clause-made g c clean desk =
    let same = state g.S.Store c.insert.new.conn in
    let mid = state g.S.Store c.remove.new.conn in
    let new = state g.S.Store c.insert-then-branch.new.conn in
    let before = clean_before mid new c.in_ok-insert-2.ensures.kept.quiet clean in
    let first = clean_before same mid c.in_ok-remove.ensures.kept.quiet before in
    renewed holds_table (state g.S.Store c.args.conn.now) same mid new
    (c.args.customer.now, c.args.key) c.args.reason.now _
    ((c.in_ok-insert.ensures.made first desk).made c.if-branch.true)
    (c.in_ok-remove.ensures.made before) (c.in_ok-insert-2.ensures.made clean)
