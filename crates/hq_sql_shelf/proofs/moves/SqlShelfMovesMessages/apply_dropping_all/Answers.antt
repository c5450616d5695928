use Rattle.std.proofs.Common.{◌≡◌, inl, inr, ⊎_elim, sym, ap, ◌∙◌, subst}
use Rattle.std.specs.Prelude.{OnOk}
use Rattle.sqlite.specs.Held.{state}
use Rattle.hq_tables.specs.Tables.{write_all}
use Rattle.hq_sql.specs.Tables.{tables_in}
use Rattle.hq_sql_changes.specs.Dropped.{all_dropped}
use Rattle.hq_sql_changes.proofs.AllDropped.{dropped_then}
use Rattle.hq_sql_open.specs.Found.{tables_with}
use Rattle.hq_sql_shelf.proofs.moves.SqlShelfMovesMessages.apply_dropping_all.Goals as goal

pub returns-clause-made : goal.returns-clause-made
returns-clause-made g c clean ours sound first =
    let t = tables_in (state g.S.Store c.args.self.now.conn).committed in
    let name = c.args.customer.now in
    subst (λ u. OnOk c.do_work.result
    (tables_in (state g.S.Store c.do_work.new.self.conn).committed ≡ u))
    (ap (λ more. write_all name more (all_dropped name t)) c.behind.ensures
    ∙ dropped_then name t sound c.args.dropped c.args.changes.now first)
    (c.do_work.ensures.made clean ours)

pub returns-clause-stops : goal.returns-clause-stops
returns-clause-stops g c clean ours sound first rests =
    let t = tables_in (state g.S.Store c.args.self.now.conn).committed in
    let name = c.args.customer.now in
    let whole = c.do_work.ensures.stops ours clean.0 in (
      λ db may. (whole db may).0,
      λ u left. ⊎_elim (λ (is : tables_with left.0 ≡ t). inl (sym left.2 ∙ is))
          (λ (is : tables_with left.0 ≡ write_all name c.behind.result.now (all_dropped name t)).
          inr (sym left.2 ∙ is
          ∙ ap (λ more. write_all name more (all_dropped name t)) c.behind.ensures
          ∙ dropped_then name t sound c.args.dropped c.args.changes.now first))
          (whole left.0 left.1).1,
    )
