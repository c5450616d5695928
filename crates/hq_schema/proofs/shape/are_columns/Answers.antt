use Rattle.std.proofs.Common.{rules, tests}
use Rattle.std.proofs.lemmas.Iterator.{YieldsList-from_slice, YieldsList-from_zip, same_from_all}
use Rattle.hq_schema.specs.Schema.{column}
use Rattle.hq_schema.proofs.Pairs.{yields_seen, as_long}
use Rattle.hq_schema.proofs.shape.are_columns.Goals as goal

pub returns-then-columns-wanted : goal.returns-then-columns-wanted
returns-then-columns-wanted c =
    same_from_all c.all.new.self _ _ _ _ c.all.ensures.ran
    (YieldsList-from_zip (YieldsList-from_slice c.args.columns.now cc)
    (yields_seen (λ w. column w.0.now w.1) (YieldsList-from_slice c.args.wanted.now cc)))
    (as_long _ c.args.columns.now c.args.wanted.now (search rules)) (λ x q k. search (rules, tests))
    (λ x q k. search (rules, tests))
