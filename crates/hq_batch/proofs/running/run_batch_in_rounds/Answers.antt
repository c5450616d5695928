use Rattle.std.proofs.Common.{◌≡◌, Err, sym, subst, ap, ◌∙◌}
use Rattle.hq_wire.specs.Exchanges.{with_refusals}
use Rattle.hq_desk.specs.Desks.{on, shelf_of}
use Rattle.hq_batch.specs.InRounds.{RepliedBy}
use Rattle.hq_batch.specs.Runs.{RoundsRunEnd, ServesInRounds}
use Rattle.hq_batch.proofs.Ends.{told_of, told_so}
use Rattle.hq_batch.proofs.running.run_batch_in_rounds.Goals as goal
use Rattle.hq_batch.proofs.running.run_batch_in_rounds.Goals.{in-Ok, in-Err}

pub returns : goal.returns
returns g c =
    let sight = with_refusals g.M.Memory.refused (on g.S.Shelf.sight) in
    let d = c.args.settings.directory in
    let old = c.new-desk.result in
    let new = c.serve_in_rounds-ended.result.1 in
    let log_old = c.args.log.now in
    let log_new = c.serve_in_rounds-ended.new.log in
    let serves = ServesInRounds g.M.Memory.refused g.S.Shelf.sight c.args.settings g.L.Log.tells
    log_old log_new c.args.shelf c.into_shelf.result in
    let told : c.match-ended.ended ≡ told_of c.serve_in_rounds-ended.result.0 =
    elim c.match-ended.branch [
      | in-Ok w ↦ w.ended-is ∙ sym (ap told_of w.in-Ok.is)
      | in-Err w ↦ w.ended-is ∙ ap (λ t. Err t) w.from.ensures ∙ sym (ap told_of w.in-Err.is)
    ] in
    subst (RoundsRunEnd serves _ _ _) (sym told)
    (told_so (RepliedBy sight d g.L.Log.tells log_old log_new old new) serves
    (λ asked lines p. record {
      old = old;
      host_is = c.new-desk.ensures.host;
      shelf_is = c.new-desk.ensures.shelf;
      new = new;
      left_is = sym c.into_shelf.ensures;
      replied = p;
    })
    _ _
    (λ same. (
      same.0,
      same.1,
      same.2,
      same.3,
      c.into_shelf.ensures ∙ ap shelf_of same.4 ∙ c.new-desk.ensures.shelf,
    )) _ _ c.serve_in_rounds-ended.result.0 c.serve_in_rounds-ended.ensures)
