use Rattle.std.proofs.Common.{◌≡◌, Some, None, rules, refl, ap, subst, sym, ◌∙◌}
use Rattle.hq_desk.specs.Desks.{on}
use Rattle.hq_lines.proofs.Told.{rounds_end_as}
use Rattle.hq_lines.specs.Ends.{RoundsEnd}
use Rattle.hq_wire.specs.Exchanges.{with_refusals}
use Rattle.hq_batch.specs.InRounds.{RepliedBy, RepliedInRounds}
use Rattle.hq_batch.proofs.Ends.{none_there, of_rounds, same_value}
use Rattle.hq_batch.proofs.InRounds.{in_rounds}
use Rattle.hq_batch.proofs.running.serve_in_rounds.Goals as goal

pub unreachable-requires : goal.unreachable-requires
unreachable-requires g c =
    let front = c.answer_in_rounds-ended.new.front in
    let gone : front.desk.now ≡ None = search rules in
    of_rounds _ _ ⊥
    (λ asked lines p.
    let run = p.run c.args.desk refl in none_there run.0 (sym run.1 ∙ gone))
    (λ same. none_there c.args.desk (sym (ap (λ f. f.desk.now) same.3) ∙ gone)) _ _
    c.answer_in_rounds-ended.result c.answer_in_rounds-ended.ensures.ended

pub returns : goal.returns
returns g c =
    let sight = with_refusals g.M.Memory.refused (on g.S.Shelf.sight) in
    let d = c.args.directory.now in
    let log_old = c.args.log.now in
    let front = c.answer_in_rounds-ended.new.front in
    let there : front.desk.now ≡ Some c.in-Some.desk = search rules in
    let done = RepliedBy sight d g.L.Log.tells log_old front.log.now c.args.desk c.in-Some.desk in
    let so : RoundsEnd done (g.M.Memory.refused
    × (c.answer_in_rounds-ended.new.input ≡ c.args.input.now)
    × (c.answer_in_rounds-ended.new.output ≡ c.args.output.now)
    × (front.log.now ≡ log_old) × (c.in-Some.desk ≡ c.args.desk))
    (record {
      input = g.R.Read.remaining c.args.input.now;
      output = g.W.Write.contents c.args.output.now;
    })
    (record {
      input = g.R.Read.remaining c.answer_in_rounds-ended.new.input;
      output = g.W.Write.contents c.answer_in_rounds-ended.new.output;
    })
    c.answer_in_rounds-ended.result = rounds_end_as _ done
    (λ asked lines p.
    let run = p.run c.args.desk refl in
    subst (RepliedInRounds sight d g.L.Log.tells log_old front.log.now c.args.desk asked lines)
    (same_value run.0 c.in-Some.desk (sym run.1 ∙ there))
    (in_rounds sight d g.L.Log.tells g.L.Log.none_told g.L.Log.told_on
    (record { desk = c.args.desk; log = log_old })
    (record { desk = run.0; log = front.log.now }) asked lines run.2))
    (λ same. (
      same.0,
      same.1,
      same.2,
      ap (λ f. f.log.now) same.3,
      same_value c.in-Some.desk c.args.desk (sym there ∙ ap (λ f. f.desk.now) same.3),
    )) _ _ c.answer_in_rounds-ended.result c.answer_in_rounds-ended.ensures.ended in
    search rules
