use Rattle.std.proofs.Common.{refl}
use Rattle.sqlite.specs.Held.{state}
use Rattle.hq_sql.proofs.Keeping.{write_done, write_failed}
use Rattle.hq_sql_recipients.proofs.Texts.{beside_text, beside_known}
use Rattle.hq_sql_recipients.proofs.OnRecipients.{beside_dropped}
use Rattle.hq_sql_recipients.proofs.recipients.drop_beside.Goals as goal

pub returns-in_err-execute-clause-kept : goal.returns-in_err-execute-clause-kept
returns-in_err-execute-clause-kept g c = write_failed _ _ beside_text _ _ beside_known refl
    c.in_err-execute.ensures.survives _ c.in_err-execute.ensures.runs

pub returns-clause-made : goal.returns-clause-made
returns-clause-made g c clean desk =
    let bound = c.range-params.ensures in
    beside_dropped (state g.S.Store c.args.conn.now) (state g.S.Store c.execute.new.conn)
    c.args.customer.now c.args.serial c.args.count _ desk
    (rw bound at (c.in_ok-execute.ensures.runs clean))

pub returns-clause-kept : goal.returns-clause-kept
returns-clause-kept g c = write_done _ _ beside_text _ _ beside_known refl
    c.in_ok-execute.ensures.survives _ c.in_ok-execute.ensures.runs
