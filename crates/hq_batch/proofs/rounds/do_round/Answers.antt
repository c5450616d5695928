use Rattle.std.proofs.Common.{◌<◌, ◌≤◌, length, refl, subst, sym}
use Rattle.hq_desk.specs.Desks.{on}
use Rattle.hq_values.specs.Refusals.{no_memory}
use Rattle.hq_wire.specs.Exchanges.{with_refusals}
use Rattle.hq_wire.specs.Replies.{reply_of_fault}
use Rattle.hq_wire.proofs.Exchanging.{wanted}
use Rattle.hq_batch.specs.InRounds.{most_lines_together}
use Rattle.hq_batch.proofs.InRounds.{of_same, round_told}
use Rattle.hq_batch.proofs.rounds.do_round.Goals as goal

pub returns : goal.returns
returns g c =
    let sight = with_refusals g.M.Memory.refused (on g.S.Shelf.sight) in
    let d = c.args.directory.now in
    let asked = c.as_slice-asked.result.now in
    let same = c.as_slice-asked.ensures.value in
    let told = c.tell_round-told in
    let so = round_told sight d c.args.desk c.round-replies.result.1 asked
    (subst (λ xs. 0 < length xs) (sym same) c.requires)
    (subst (λ xs. length xs ≤ most_lines_together) (sym same) c.args.waiting.now.few)
    g.L.Log.tells g.L.Log.told_on c.args.log.now c.begin.new.self told.new.log
    (g.W.Write.contents c.args.writer.now)
    (g.W.Write.contents told.new.writer) told.result g.M.Memory.refused
    (λ why. (wanted g.M.Memory.refused (on g.S.Shelf.sight) (reply_of_fault no_memory) why refl).0)
    (λ v. v.items) c.round-replies.result.0 c.begin.ensures c.round-replies.ensures.served
    c.round-replies.ensures.whose c.round-replies.ensures.none told.ensures.replied
    told.ensures.wanted told.ensures.told_replies told.ensures.told_wants in (
      so.0,
      of_same sight d g.L.Log.tells _ _ asked c.args.waiting.now.exchanges.items so.0 same so.1,
      so.2,
    )
