use Rattle.hq_rules.specs.Desks.{or_memory}
use Rattle.hq_laws.proofs.Left.{left_by_reader}
use Rattle.hq_laws.proofs.runs.a_reading_key_changes_nothing.Goals as goal

pub returns : goal.returns
returns g c = λ host d x held r t t' holds reader replied.
    left_by_reader (or_memory g.M.Memory.refused g.D.Acts.sight.store).may_answer host d t t' x held
    r holds reader replied
