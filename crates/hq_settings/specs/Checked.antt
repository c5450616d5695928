-- What a check of the settings finds: the relay, and how many customers a start would serve.
use Rattle.std.specs.Prelude.{ℕ, ◌≡◌, List, length, Option, Some, None, Result, Ok}
use Rattle.hq_values.specs.Readers.{◌>>=◌}
use Rattle.hq_import.specs.declared.keys.NamedKey.{NamedKey}
use Rattle.hq_values.specs.declared.failure.Refusal.{Refusal}
use Rattle.hq_values.specs.Words.{host_in}
use Rattle.hq_import.specs.Directories.{customers_in}
use Rattle.hq_kept.specs.declared.account.Customer.{Customer}
use Rattle.hq_settings.specs.Settings.{Named, settings_with}
use Rattle.hq_settings.specs.SettingUp.{NamesRelay}
use Rattle.hq_settings.specs.Steps.{Then, HasKeys, IsRead, Reading}
use Rattle.hq_settings.specs.declared.trouble.Trouble.{Trouble}
use Rattle.hq_words.specs.Given.{KeyGiven}

-- the relay of a start; or its name alone, which is good, where no key is given
abbrev pub HasRelay : Reading → List ℕ → Option KeyGiven → Result (Option Named) Trouble → Type 0
HasRelay reads host (Some key) = Then (NamesRelay reads host key) (λ relay found.
    found ≡ Ok (Some relay))
HasRelay reads host None = Then (IsRead (host_in host)) (λ name found. found ≡ Ok None)

-- how many of these customers a start would serve: 57 where the relay's key is one of theirs
abbrev pub count_of : Option Named → List Customer → List NamedKey → Result ℕ Refusal
count_of (Some relay) customers keys = do
  set ← settings_with relay customers keys
  Ok (length set.customers)
count_of None customers keys = Ok (length customers)

-- how many customers a start would serve, or the refusal of their directory, of the keys beside it,
-- or of the relay's key
abbrev pub CountsCustomers : Reading → Option Named → Option (List ℕ) → List ℕ → Result ℕ Trouble →
    Type 0
CountsCustomers reads relay keys file = Then (IsRead (customers_in file)) (λ customers.
    Then (HasKeys reads customers keys) (λ named. IsRead (count_of relay customers named)))
