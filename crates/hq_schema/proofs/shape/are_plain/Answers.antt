use Rattle.std.proofs.Common.{rules, tests}
use Rattle.std.proofs.lemmas.Iterator.{YieldsList-from_slice, YieldsList-from_zip, same_from_all}
use Rattle.sqlite_value.specs.Keys.{plain}
use Rattle.hq_schema.proofs.Pairs.{yields_seen, as_long}
use Rattle.hq_schema.proofs.shape.are_plain.Goals as goal

pub returns-then-orders-keys : goal.returns-then-orders-keys
returns-then-orders-keys c =
    same_from_all c.all.new.self _ _ _ _ c.all.ensures.ran
    (YieldsList-from_zip (YieldsList-from_slice c.args.orders.now cc)
    (yields_seen (λ _. plain) (YieldsList-from_slice c.args.keys.now cc)))
    (as_long _ c.args.orders.now c.args.keys.now (search rules)) (λ x q k. search (rules, tests))
    (λ x q k. search (rules, tests))
