use Rattle.std.proofs.Common.{refl}
use Rattle.sqlite.specs.Held.{state}
use Rattle.hq_sql.proofs.Keeping.{write_done, write_failed}
use Rattle.hq_sql_notices.specs.Ends.{end_at, end_row}
use Rattle.hq_sql_notices.proofs.OnEnds.{end_inserted}
use Rattle.hq_sql_notices.proofs.EndTexts.{end_insert_text, end_insert_known}
use Rattle.hq_sql_notices.proofs.ends.insert.Goals as goal

pub returns-in_err-execute-clause-kept : goal.returns-in_err-execute-clause-kept
returns-in_err-execute-clause-kept g c = write_failed _ _ end_insert_text _ _ end_insert_known
    refl c.in_err-execute.ensures.survives _ c.in_err-execute.ensures.runs

pub returns-clause-made : goal.returns-clause-made
returns-clause-made g c clean desk free =
    let bound = c.end-params.ensures.columns c.args.number c.args.at c.in_ok-numbers.ensures in
    end_inserted (state g.S.Store c.args.conn.now) (state g.S.Store c.execute.new.conn)
    (end_row c.args.customer.now (end_at c.args.number c.args.at c.args.ended.now)) _
    c.end-params.ensures.back desk free
    (rw bound at (c.in_ok-execute.ensures.runs clean))

pub returns-clause-kept : goal.returns-clause-kept
returns-clause-kept g c = write_done _ _ end_insert_text _ _ end_insert_known refl
    c.in_ok-execute.ensures.survives _ c.in_ok-execute.ensures.runs
