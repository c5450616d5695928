use Rattle.std.proofs.Common.{◌≡◌, ap, ◌∙◌, subst}
use Rattle.std.specs.Prelude.{OnOk}
use Rattle.sqlite.specs.Held.{state}
use Rattle.hq_tables.specs.Tables.{write_all}
use Rattle.hq_sql.specs.Tables.{tables_in}
use Rattle.hq_sql_changes.specs.Dropped.{all_dropped}
use Rattle.hq_sql_changes.proofs.AllDropped.{dropped_then}
use Rattle.hq_sql_shelf.proofs.moves.SqlRoundMovesMessages.apply_dropping_all.Goals as goal

pub returns-clause-made : goal.returns-clause-made
returns-clause-made g c clean ours sound first =
    let t = tables_in (state g.S.Store c.args.self.now.shelf.conn).now in
    let name = c.args.customer.now in
    subst (λ u. OnOk c.make.result (tables_in (state g.S.Store c.make.new.self.shelf.conn).now ≡ u))
    (ap (λ more. write_all name more (all_dropped name t)) c.behind.ensures
    ∙ dropped_then name t sound c.args.dropped c.args.changes.now first)
    (c.make.ensures.made clean ours)

pub returns-clause-stops : goal.returns-clause-stops
returns-clause-stops g c clean ours sound first rests = (tt, λ t may. absurd may)
