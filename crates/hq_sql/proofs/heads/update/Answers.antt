use Rattle.std.proofs.Common.{refl}
use Rattle.sqlite.specs.Held.{state}
use Rattle.hq_sql.proofs.Keeping.{write_done, write_failed}
use Rattle.hq_sql.proofs.OnHeads.{head_updated}
use Rattle.hq_sql.proofs.Texts.{head_update_text, head_update_known}
use Rattle.hq_sql.proofs.heads.update.Goals as goal

pub returns-in_err-count-clause-kept : goal.returns-in_err-count-clause-kept
returns-in_err-count-clause-kept g c = write_failed _ _ head_update_text _ _ head_update_known refl
    c.in_err-count.ensures.survives _ c.in_err-count.ensures.runs

pub returns-clause-made : goal.returns-clause-made
returns-clause-made g c clean desk =
    let bound = c.head-params.ensures c.args.account.now c.in_ok-numbers.ensures in
    head_updated (state g.S.Store c.args.conn.now) (state g.S.Store c.execute.new.conn)
    (record { customer = c.args.customer.now; account = c.args.account.now }) _ desk
    (rw bound at (c.in_ok-count.ensures.runs clean))

pub returns-clause-kept : goal.returns-clause-kept
returns-clause-kept g c = write_done _ _ head_update_text _ _ head_update_known refl
    c.in_ok-count.ensures.survives _ c.in_ok-count.ensures.runs
