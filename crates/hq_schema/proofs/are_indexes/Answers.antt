use Rattle.std.proofs.Common.{rules, tests}
use Rattle.std.proofs.lemmas.Iterator.{YieldsList-from_slice, YieldsList-from_zip, same_from_all}
use Rattle.hq_schema.specs.Shapes.{index_of}
use Rattle.hq_schema.proofs.Pairs.{yields_seen, as_long}
use Rattle.hq_schema.proofs.are_indexes.Goals as goal

pub returns-then-indexes-shapes : goal.returns-then-indexes-shapes
returns-then-indexes-shapes c =
    same_from_all c.all.new.self _ _ _ _ c.all.ensures.ran
    (YieldsList-from_zip (YieldsList-from_slice c.args.indexes.now cc)
    (yields_seen index_of (YieldsList-from_slice c.args.shapes.now cc)))
    (as_long _ c.args.indexes.now c.args.shapes.now (search rules)) (λ x q k. search (rules, tests))
    (λ x q k. search (rules, tests))
