use Rattle.std.proofs.lemmas.Bool.{both_ways, eq-eqb}
use Rattle.hq_rules.specs.Desks.{or_memory}
use Rattle.hq_across.proofs.Answering.{all_done, answered, never_503}
use Rattle.hq_across.proofs.laws.all_is_answered.Goals as goal

pub returns-clause-answers : goal.returns-clause-answers
returns-clause-answers g c = λ host d a r t t' none replied.
    let may = (or_memory g.M.Memory.refused g.D.Acts.sight.store).may_answer in
    let so = answered may none host d t t' a.at a.called r replied in (
      so,
      λ struck. both_ways _ (never_503 may none host d t t' a.at a.called r so)
          (eq-eqb r.status 503 struck),
    )

pub returns-clause-done : goal.returns-clause-done
returns-clause-done g c = λ host d asks rs t t' none replied.
    all_done (or_memory g.M.Memory.refused g.D.Acts.sight.store).may_answer none host d t t' asks rs
    replied
