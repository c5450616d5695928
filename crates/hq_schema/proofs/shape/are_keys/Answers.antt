use Rattle.std.proofs.Common.{rules, tests}
use Rattle.std.proofs.lemmas.Iterator.{YieldsList-from_slice, YieldsList-from_zip, same_from_all}
use Rattle.hq_schema.proofs.Pairs.{yields_seen, as_long}
use Rattle.hq_schema.proofs.shape.are_keys.Goals as goal

pub returns-then-keys-wanted : goal.returns-then-keys-wanted
returns-then-keys-wanted c =
    same_from_all c.all.new.self _ _ _ _ c.all.ensures.ran
    (YieldsList-from_zip (YieldsList-from_slice c.args.keys.now cc)
    (yields_seen (λ places. places.now) (YieldsList-from_slice c.args.wanted.now cc)))
    (as_long _ c.args.keys.now c.args.wanted.now (search rules)) (λ x q k. search (rules, tests))
    (λ x q k. search (rules, tests))
