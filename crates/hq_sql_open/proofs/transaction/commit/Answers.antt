use Rattle.std.proofs.Common.{Ok}
use Rattle.sqlite.specs.Held.{state}
use Rattle.hq_keyed.proofs.Left.{execute_left, on_err}
use Rattle.hq_sql_open.proofs.Transactions.{done, commit_keeps}
use Rattle.hq_sql_open.proofs.transaction.commit.Goals as goal

pub returns-in_err-execute-clause-kept : goal.returns-in_err-execute-clause-kept
returns-in_err-execute-clause-kept g c = commit_keeps _ _ _ c.in_err-execute.ensures.survives
    (λ clean. on_err _ (execute_left _ _ _ _ _ (c.in_err-execute.ensures.runs clean)))

pub returns-clause-done : goal.returns-clause-done
returns-clause-done g c clean =
    done (state g.S.Store c.args.conn.now) (state g.S.Store c.execute.new.conn) _
    (c.in_ok-execute.ensures.runs clean)

pub returns-clause-kept : goal.returns-clause-kept
returns-clause-kept g c = commit_keeps _ _ (Ok tt) c.in_ok-execute.ensures.survives (λ clean. tt)
