use Rattle.std.proofs.Common.{sym, ◌∙◌}
use Rattle.std.specs.FinMap.{get}
use Rattle.sqlite.specs.Held.{state}
use Rattle.hq_tables.specs.Tables.{Tables, counted, without_line}
use Rattle.hq_isolation.proofs.Accounts.{is_counted, at_some}
use Rattle.hq_sql.specs.Tables.{tables_in}
use Rattle.hq_keyed.proofs.Left.{clean_before}
use Rattle.hq_sql_changes.proofs.Steps.{put_after}
use Rattle.hq_sql_changes.proofs.accounts.uncount_line.Goals as goal

pub returns-clause-made : goal.returns-clause-made
returns-clause-made g c clean desk =
    let mid = state g.S.Store c.account.new.conn in
    let read = clean_before mid (state g.S.Store c.put.new.conn)
    c.in_ok-put.ensures.kept.quiet clean in
    let begun = clean_before (state g.S.Store c.has.new.conn) mid
    c.in_ok-account.ensures.kept.quiet read in
    let t : Tables = tables_in (state g.S.Store c.args.conn.now).now in
    put_after c.args.customer.now c.in_ok-account.field-0 c.without_line-fewer.result _ _ _ _ _ desk
    (c.in_ok-has.ensures.kept.same begun desk) (c.in_ok-account.ensures.kept.same read)
    (c.in_ok-account.ensures.found read) (c.in_ok-put.ensures.made clean)
    (λ kept. is_counted without_line c.args.customer.now t.heads c.in_ok-account.field-0
    c.without_line-fewer.result kept c.without_line-fewer.ensures
    ∙ at_some t.heads (counted without_line c.args.customer.now t.heads)
    (get t.lines (c.args.customer.now, c.args.pattern.now))
    (sym (c.in_ok-has.ensures.found begun desk) ∙ c.if-not-branch.false))
