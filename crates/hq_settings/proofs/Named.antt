-- Keys of a file that words name.
use Rattle.std.proofs.Common.{◌≡◌, ℕ, Bor, List, Option, Some, Result, option_map, sym, subst}
use Rattle.hq_kept.specs.declared.account.Customer.{Customer}
use Rattle.hq_import.specs.Keys.{keys_in}
use Rattle.hq_import.specs.declared.keys.NamedKey.{NamedKey}
use Rattle.hq_settings.specs.Steps.{Then, AreKeysRead, HasKeys, IsFile, Reading}
use Rattle.hq_settings.specs.declared.trouble.Trouble.{Trouble}

-- where a file is named, its keys are found
pub of_file : (reads : Reading) (customers : List Customer) (given : Option (Bor (List ℕ)))
    (path : Bor (List ℕ)) → given ≡ Some path → (found : Result (List NamedKey) Trouble) →
    Then (IsFile reads path.now) (λ file. AreKeysRead (keys_in customers file)) found →
    HasKeys reads customers (option_map (λ p. p.now) given) found
of_file reads customers given path is found read =
    subst (λ (g : Option (Bor (List ℕ))). HasKeys reads customers (option_map (λ p. p.now) g)
    found) (sym is) read
