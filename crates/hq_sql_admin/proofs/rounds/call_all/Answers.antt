use Rattle.std.proofs.Common.{ap, sym, subst, ◌∙◌}
use Rattle.hq_desk.specs.Desks.{on, shelf_of}
use Rattle.hq_admin.specs.Rounds.{CallsEach}
use Rattle.hq_sql_admin.specs.Rounds.{RoundOver}
use Rattle.hq_sql_admin.proofs.rounds.call_all.Goals as goal
use Rattle.hq_sql_admin.proofs.rounds.call_all.Goals.{in-Ok, in-Err}

pub returns : goal.returns
returns g c =
    let left = c.into_shelf.result in
    let old = c.new-desk.result in
    let new = c.call_each.new.desk in
    let asked = c.args.asked in
    elim c.match-call_each.branch [
      | in-Ok w ↦ subst (λ r. RoundOver g.S.Shelf.sight c.args.asked r c.args.shelf left)
          (sym w.done-is) (
            c.new-desk.result,
            c.call_each.new.desk,
            c.new-desk.ensures.host,
            c.new-desk.ensures.shelf,
            sym c.into_shelf.ensures,
            subst (λ customers. CallsEach (on g.S.Shelf.sight) old new asked.at asked.each
                customers w.in-Ok.told) c.as_slice.ensures.value w.in-Ok.ensures.done,
          )
      | in-Err w ↦ subst (λ r. RoundOver g.S.Shelf.sight c.args.asked r c.args.shelf left)
          (sym w.done-is) (
            w.from.ensures,
            c.into_shelf.ensures ∙ ap shelf_of w.in-Err.ensures.none ∙ c.new-desk.ensures.shelf,
          )
    ]
