use Rattle.std.proofs.Common.{sym, ◌∙◌}
use Rattle.hq_requests.specs.Directories.{entry_of}
use Rattle.hq_rules.specs.Desks.{or_memory}
use Rattle.hq_wire.specs.Runs.{calls_in, told_in}
use Rattle.hq_rules.specs.Machine.{answers, state_after}
use Rattle.hq_wire.proofs.Alone.{alone}
use Rattle.hq_laws.proofs.runs.nobody_else_matters.Goals as goal

pub returns-clause-replies : goal.returns-clause-replies
returns-clause-replies g c = λ host d name xs ys rs qs t u t' u' one other start same.
    (alone (or_memory g.M.Memory.refused g.D.Acts.sight.store).may_answer host d t t' xs rs
    one).replies name
    ∙ (λ i. told_in name (same i) (answers host (entry_of d name) (start i)
    (calls_in (same i)))) ∙ sym ((alone (or_memory g.N.Memory.refused
    g.E.Acts.sight.store).may_answer host d u u' ys qs
    other).replies name)

pub returns-clause-state : goal.returns-clause-state
returns-clause-state g c = λ host d name xs ys rs qs t u t' u' one other start same.
    (alone (or_memory g.M.Memory.refused g.D.Acts.sight.store).may_answer host d t t' xs rs
    one).state name
    ∙ (λ i. state_after host (entry_of d name) (start i) (calls_in (same i)))
    ∙ sym ((alone (or_memory g.N.Memory.refused g.E.Acts.sight.store).may_answer host d u u' ys qs
    other).state name)
