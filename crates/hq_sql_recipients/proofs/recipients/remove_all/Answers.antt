use Rattle.std.proofs.Common.{refl}
use Rattle.sqlite.specs.Held.{state}
use Rattle.hq_sql.proofs.Keeping.{write_done, write_failed}
use Rattle.hq_sql_recipients.proofs.Texts.{own_text, own_known}
use Rattle.hq_sql_recipients.proofs.OnRecipients.{all_dropped}
use Rattle.hq_sql_recipients.proofs.recipients.remove_all.Goals as goal

pub returns-in_err-execute-clause-kept : goal.returns-in_err-execute-clause-kept
returns-in_err-execute-clause-kept g c = write_failed _ _ own_text _ _ own_known refl
    c.in_err-execute.ensures.survives _ c.in_err-execute.ensures.runs

pub returns-clause-made : goal.returns-clause-made
returns-clause-made g c clean desk =
    all_dropped (state g.S.Store c.args.conn.now) (state g.S.Store c.execute.new.conn)
    c.args.customer.now _ desk (rw c.owner-params.ensures at (c.in_ok-execute.ensures.runs clean))

pub returns-clause-kept : goal.returns-clause-kept
returns-clause-kept g c = write_done _ _ own_text _ _ own_known refl
    c.in_ok-execute.ensures.survives _ c.in_ok-execute.ensures.runs
