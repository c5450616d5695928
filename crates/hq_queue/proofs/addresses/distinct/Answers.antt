use Rattle.std.proofs.Common.{[], ◌∷◌, ◌++◌, sym, ap, ◌∙◌}
use Rattle.std.specs.Prelude.{if◌then◌else◌}
use Rattle.std.specs.List.{list_any}
use Rattle.hq_tables.specs.Sound.{same_address}
use Rattle.hq_queue.proofs.SameAddresses.{distinct_more}
use Rattle.hq_queue.proofs.addresses.distinct.Goals as goal

pub loop-address-preserved : goal.loop-address-preserved
loop-address-preserved g c =
    c.in_ok-add_new.ensures
    ∙ ap (λ kept. kept ++ (if list_any (λ known. same_address known c.in-Some.address) kept then
    [] else c.in-Some.address ∷ [])) c.loop-address.invariant
    ∙ sym (distinct_more c.loop-address.yielded c.in-Some.address)
