use Rattle.sqlite.specs.Held.{state}
use Rattle.hq_sql_open.proofs.Standings.{asks_ok, asks_err}
use Rattle.hq_sql_open.proofs.transaction.ask.Goals as goal

pub returns-in-Ok-clause-probes : goal.returns-in-Ok-clause-probes
returns-in-Ok-clause-probes g c = asks_ok (state g.S.Store c.args.conn.now) (state g.S.Store
    c.execute.new.conn) _
    c.in-Ok.ensures.survives c.in-Ok.ensures.runs

pub returns-in-Err-clause-probes : goal.returns-in-Err-clause-probes
returns-in-Err-clause-probes g c = asks_err (state g.S.Store c.args.conn.now) (state g.S.Store
    c.execute.new.conn)
    _ c.in-Err.ensures.survives c.in-Err.ensures.runs
