use Rattle.sqlite.specs.Held.{state}
use Rattle.hq_sql_changes.proofs.DoneAs.{all_committed, all_kept}
use Rattle.hq_sql_changes.proofs.transacting.apply.Goals as goal

pub returns-clause-made : goal.returns-clause-made
returns-clause-made g c clean rest counted =
    all_committed (state g.S.Store c.transact.new.conn) c.args.customer.now c.args.work.now _
    counted _ (c.transact.ensures.made clean rest)

pub returns-clause-kept : goal.returns-clause-kept
returns-clause-kept g c = all_kept (state g.S.Store c.args.conn.now)
    (state g.S.Store c.transact.new.conn) _ c.args.customer.now c.args.work.now
    c.transact.ensures.kept
