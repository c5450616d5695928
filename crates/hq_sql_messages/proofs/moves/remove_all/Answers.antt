use Rattle.std.proofs.Common.{refl}
use Rattle.sqlite.specs.Held.{state}
use Rattle.hq_sql.proofs.Keeping.{write_done, write_failed}
use Rattle.hq_sql_messages.proofs.OnMoves.{messages_deleted}
use Rattle.hq_sql_messages.proofs.MoveTexts.{delete_text, delete_known}
use Rattle.hq_sql_messages.proofs.moves.remove_all.Goals as goal

pub returns-in_err-execute-clause-kept : goal.returns-in_err-execute-clause-kept
returns-in_err-execute-clause-kept g c = write_failed _ _ delete_text _ _ delete_known refl
    c.in_err-execute.ensures.survives _ c.in_err-execute.ensures.runs

pub returns-clause-made : goal.returns-clause-made
returns-clause-made g c clean desk =
    messages_deleted (state g.S.Store c.args.conn.now) (state g.S.Store c.execute.new.conn)
    c.args.customer.now _ desk
    (rw c.customer-params.ensures at (c.in_ok-execute.ensures.runs clean))

pub returns-clause-kept : goal.returns-clause-kept
returns-clause-kept g c = write_done _ _ delete_text _ _ delete_known refl
    c.in_ok-execute.ensures.survives _ c.in_ok-execute.ensures.runs
