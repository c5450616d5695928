use Rattle.std.proofs.Common.{sym, ◌∙◌}
use Rattle.sqlite.specs.Held.{state}
use Rattle.hq_sql_open.proofs.Standings.{undoes, within}
use Rattle.hq_sql_open.proofs.transaction.roll_back.Goals as goal

pub returns-then-not-is_autocommit : goal.returns-then-not-is_autocommit
returns-then-not-is_autocommit g c =
    undoes (state g.S.Store c.args.conn.now) (state g.S.Store c.execute.new.conn) _
    (within _ (sym c.is_autocommit.ensures.value ∙ c.if-not-is_autocommit.true))
    c.execute.ensures.survives c.execute.ensures.runs
