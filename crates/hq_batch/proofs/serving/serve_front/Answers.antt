use Rattle.hq_wire.specs.Exchanges.{with_refusals}
use Rattle.std.proofs.Common.{ap}
use Rattle.hq_lines.proofs.Told.{ends_alone, ends_as}
use Rattle.hq_batch.specs.Steps.{LineStep}
use Rattle.hq_batch.proofs.Replying.{lent, replied}
use Rattle.hq_batch.proofs.serving.serve_front.Goals as goal

pub returns-clause-same_reference : goal.returns-clause-same_reference
returns-clause-same_reference g c =
    let sight = with_refusals g.M.Memory.refused g.D.Acts.sight in
    lent sight g.L.Log.tells (λ f. f.desk.ghost_name) (λ old new request line p. p.same_desk)
    c.args.front.now c.answer_lines.new.answers (λ same. same.3) _ _ c.answer_lines.result
    (ends_alone (LineStep sight g.L.Log.tells) _ c.args.front.now c.answer_lines.new.answers _ _
    c.answer_lines.result c.answer_lines.ensures)

pub returns-clause-same_log : goal.returns-clause-same_log
returns-clause-same_log g c =
    let sight = with_refusals g.M.Memory.refused g.D.Acts.sight in
    lent sight g.L.Log.tells (λ f. f.log.ghost_name) (λ old new request line p. p.same_log)
    c.args.front.now c.answer_lines.new.answers (λ same. same.3) _ _ c.answer_lines.result
    (ends_alone (LineStep sight g.L.Log.tells) _ c.args.front.now c.answer_lines.new.answers _ _
    c.answer_lines.result c.answer_lines.ensures)

pub returns-clause-ended : goal.returns-clause-ended
returns-clause-ended g c =
    let sight = with_refusals g.M.Memory.refused g.D.Acts.sight in
    ends_as _ _ (replied sight g.L.Log.tells g.L.Log.none_told g.L.Log.told_on c.args.front.now
    c.answer_lines.new.answers)
    (λ same. (
      same.0,
      same.1,
      same.2,
      ap (λ f. f.log.now) same.3,
      ap (λ f. f.desk.now) same.3,
    )) _ _ c.answer_lines.result
    (ends_alone (LineStep sight g.L.Log.tells) _ c.args.front.now c.answer_lines.new.answers _ _
    c.answer_lines.result c.answer_lines.ensures)
