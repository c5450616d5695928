use Rattle.std.proofs.Common.{OnOk, [], subst}
use Rattle.sqlite.specs.Held.{state}
use Rattle.hq_sql.specs.Tables.{Leaves, tables_in}
use Rattle.hq_sql_recipients.proofs.InPlace.{deal_in_place}
use Rattle.hq_sql_recipients.proofs.recipients.remove.Goals as goal

pub returns-clause-made : goal.returns-clause-made
returns-clause-made g c clean desk =
    let old = state g.S.Store c.args.conn.now in
    let t = tables_in old.now in
    subst (λ m. OnOk c.drop_beside.result
    (Leaves old (state g.S.Store c.drop_beside.new.conn) (record t { recipients = m })))
    (deal_in_place c.args.customer.now c.args.serial [] t.recipients)
    (c.drop_beside.ensures.made clean desk)
