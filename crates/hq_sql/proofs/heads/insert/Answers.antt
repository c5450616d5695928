use Rattle.std.proofs.Common.{refl}
use Rattle.sqlite.specs.Held.{state}
use Rattle.hq_sql.proofs.Keeping.{write_done, write_failed}
use Rattle.hq_sql.proofs.OnHeads.{head_inserted}
use Rattle.hq_sql.proofs.Texts.{head_insert_text, head_insert_known}
use Rattle.hq_sql.proofs.heads.insert.Goals as goal

pub returns-in_err-execute-clause-kept : goal.returns-in_err-execute-clause-kept
returns-in_err-execute-clause-kept g c = write_failed _ _ head_insert_text _ _ head_insert_known
    refl c.in_err-execute.ensures.survives _ c.in_err-execute.ensures.runs

pub returns-clause-made : goal.returns-clause-made
returns-clause-made g c clean desk free =
    let bound = c.head-params.ensures c.args.account.now c.in_ok-numbers.ensures in
    head_inserted (state g.S.Store c.args.conn.now) (state g.S.Store c.execute.new.conn)
    (record { customer = c.args.customer.now; account = c.args.account.now }) _ desk free
    (rw bound at (c.in_ok-execute.ensures.runs clean))

pub returns-clause-kept : goal.returns-clause-kept
returns-clause-kept g c = write_done _ _ head_insert_text _ _ head_insert_known refl
    c.in_ok-execute.ensures.survives _ c.in_ok-execute.ensures.runs
