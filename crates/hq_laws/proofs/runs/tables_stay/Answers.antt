use Rattle.std.proofs.Common.{Result, subst}
use Rattle.hq_values.specs.declared.failure.Refusal.{Refusal}
use Rattle.hq_requests.specs.Calls.{Asked}
use Rattle.hq_rules.specs.Desks.{or_memory}
use Rattle.hq_wire.specs.Exchanges.{MayReplyTo}
use Rattle.hq_laws.proofs.Left.{left_by_others, left_by_reading}
use Rattle.hq_laws.proofs.runs.tables_stay.Goals as goal

pub returns-clause-refused : goal.returns-clause-refused
returns-clause-refused g c = λ host d a r t t' replied other.
    left_by_others (or_memory g.M.Memory.refused g.D.Acts.sight.store).may_answer host d t t' a.at
    a.called r replied other

pub returns-clause-reads : goal.returns-clause-reads
returns-clause-reads g c = λ host d a r t t' asked replied is reads.
    left_by_reading (or_memory g.M.Memory.refused g.D.Acts.sight.store).may_answer host d t t' a.at
    asked r
    (subst (λ (called : Result Asked Refusal). MayReplyTo (or_memory g.M.Memory.refused
    g.D.Acts.sight.store).may_answer host d t
    a.at called r t') is replied) reads
