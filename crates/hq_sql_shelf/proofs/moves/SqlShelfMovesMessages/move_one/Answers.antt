use Rattle.std.proofs.Common.{◌≡◌, inl, inr, ⊎_elim, sym, ◌∙◌, subst}
use Rattle.std.specs.Prelude.{OnOk}
use Rattle.sqlite.specs.Held.{state}
use Rattle.hq_sql.specs.Tables.{tables_in}
use Rattle.hq_sql_changes.specs.OneMoved.{one_set_moved}
use Rattle.hq_sql_changes.proofs.OneMoved.{one_as_put}
use Rattle.hq_sql_open.specs.Found.{tables_with}
use Rattle.hq_sql_shelf.specs.Shelf.{sight_over}
use Rattle.hq_sql_shelf.proofs.Moved.{changes_more}
use Rattle.hq_sql_shelf.proofs.moves.SqlShelfMovesMessages.move_one.Goals as goal

pub returns-clause-made : goal.returns-clause-made
returns-clause-made g c clean ours sound applies =
    let t = tables_in (state g.S.Store c.args.self.now.conn).committed in
    subst (λ u. OnOk c.do_work.result
    (tables_in (state g.S.Store c.do_work.new.self.conn).committed ≡ u))
    (one_as_put c.args.customer.now c.args.serial t sound c.args.by applies)
    (c.do_work.ensures.made clean ours)

pub returns-clause-stops : goal.returns-clause-stops
returns-clause-stops g c clean ours sound applies rests =
    let t = tables_in (state g.S.Store c.args.self.now.conn).committed in
    let whole = c.do_work.ensures.stops ours clean.0 in (
      λ db may. (whole db may).0,
      λ u left. ⊎_elim (λ (is : tables_with left.0 ≡ t). inl (sym left.2 ∙ is))
          (λ (is : tables_with left.0 ≡
          one_set_moved c.args.customer.now c.args.serial c.args.by t). inr (sym left.2 ∙ is
          ∙ one_as_put c.args.customer.now c.args.serial t sound c.args.by applies))
          (whole left.0 left.1).1,
    )

pub returns-clause-kept : goal.returns-clause-kept
returns-clause-kept g c = changes_more g.N.Memory.refused
    (sight_over g.M.Memory.refused g.M.SqliteMemory.failed (state g.S.Store)) _ _ c.do_work.result
    c.do_work.ensures.kept
