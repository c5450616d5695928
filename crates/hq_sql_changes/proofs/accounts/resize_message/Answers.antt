use Rattle.std.proofs.Common.{ap, ◌∙◌}
use Rattle.sqlite.specs.Held.{state}
use Rattle.hq_tables.specs.Tables.{Tables, recounted, with_message}
use Rattle.hq_sql.specs.Heads.{with_account}
use Rattle.hq_sql.specs.Tables.{tables_in}
use Rattle.hq_keyed.proofs.Left.{clean_before}
use Rattle.hq_sql_changes.proofs.Recounted.{is_resized}
use Rattle.hq_sql_changes.proofs.Steps.{made_after, desk_after}
use Rattle.hq_sql_changes.proofs.accounts.resize_message.Goals as goal

pub returns-clause-made : goal.returns-clause-made
returns-clause-made g c clean desk =
    let was = clean_before (state g.S.Store c.account.new.conn) (state g.S.Store c.put.new.conn)
    c.in_ok-put.ensures.kept.quiet clean in
    let same = c.in_ok-kept.ensures.kept.same was desk in
    let t : Tables = tables_in (state g.S.Store c.args.conn.now).now in
    made_after (with_account c.args.customer.now c.in-Some.more) _ _ _ _ same
    (c.in_ok-put.ensures.made clean (desk_after _ _ same desk))
    (ap (λ h. record t { heads = h })
    (is_resized c.args.customer.now c.args.before c.args.size t.heads c.in_ok-kept.kept
    c.in-Some.more (c.in_ok-kept.ensures.found was desk) (c.in-Some.ensures
    ∙ ap (recounted (with_message c.args.size)) c.without_message-fewer.ensures)))
