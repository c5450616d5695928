use Rattle.std.proofs.Common.{◌≡◌, ap}
use Rattle.hq_batch.proofs.Ends.{of_rounds}
use Rattle.hq_batch.proofs.running.answer_in_rounds.Goals as goal

pub returns-clause-same_desk : goal.returns-clause-same_desk
returns-clause-same_desk g c =
    let old = c.args.front.now in
    let new = c.answer_lines.new.answers in
    of_rounds _ _ (new.desk.ghost_name ≡ old.desk.ghost_name) (λ asked lines p. p.same_desk)
    (λ same. ap (λ f. f.desk.ghost_name) same.3) _ _ c.answer_lines.result c.answer_lines.ensures

pub returns-clause-same_log : goal.returns-clause-same_log
returns-clause-same_log g c =
    let old = c.args.front.now in
    let new = c.answer_lines.new.answers in
    of_rounds _ _ (new.log.ghost_name ≡ old.log.ghost_name) (λ asked lines p. p.same_log)
    (λ same. ap (λ f. f.log.ghost_name) same.3) _ _ c.answer_lines.result c.answer_lines.ensures
