use Rattle.std.proofs.Common.{arith, rules, tests}
use Rattle.std.proofs.lemmas.Iterator.{YieldsList-from_slice}
use Rattle.std.proofs.lemmas.Iterator.Search.{all_from_yields_List}
use Rattle.std.proofs.lemmas.Bool.Decides.{nat_tests}
use Rattle.hq_values.specs.Words.{is_name_byte}
use Rattle.hq_values.proofs.name.is_name.Goals as goal

pub returns-then-text-le-NAME_BYTES : goal.returns-then-text-le-NAME_BYTES
returns-then-text-le-NAME_BYTES c =
    let e = all_from_yields_List is_name_byte _ _ c.all.result c.all.ensures.ran
    (YieldsList-from_slice c.args.text.now cc) (λ x b q k. search (rules, tests)) in
    grind (arith, nat_tests)
