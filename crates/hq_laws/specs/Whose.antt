-- Which key an exchange has to show to make a call of a customer.
use Rattle.std.specs.Prelude.{ℕ, ◌≡◌, ◌⊎◌, List, Some, string_bytes}
use Rattle.std.specs.List.{Contains}
use Rattle.hq_kept.specs.declared.account.Customer.{Customer}
use Rattle.hq_import.specs.declared.keys.NamedKey.{NamedKey}
use Rattle.hq_requests.specs.Named.{key_shown}
use Rattle.hq_requests.specs.Routes.{last_segment}
use Rattle.hq_requests.specs.declared.directory.Directory.{Directory}
use Rattle.hq_requests.specs.declared.exchanges.Exchange.{Exchange}

-- it is the customer's own
abbrev pub IsOwn : Directory → List ℕ → List ℕ → Type 0
IsOwn d name key = (c : Customer) × Contains d.customers c × (c.entry.name ≡ name) × (c.key ≡ key)

-- it is a named one of the customer
abbrev pub IsNamed : Directory → List ℕ → List ℕ → Type 0
IsNamed d name key = (k : NamedKey) × Contains d.keys k × (k.customer ≡ name) × (k.key ≡ key)

-- it is the relay's, and the path ends in the name of the customer, who is in the directory
abbrev pub IsRelays : Directory → List ℕ → List ℕ → List ℕ → Type 0
IsRelays d path name key = (key ≡ d.relay) × (last_segment path ≡ name)
    × ((c : Customer) × Contains d.customers c × (c.entry.name ≡ name))

abbrev pub MayCall : Directory → Exchange → List ℕ → Type 0
MayCall d x name = (key : List ℕ) × (key_shown x ≡ Some key)
    × (IsRelays d (string_bytes x.path) name key ⊎ (IsOwn d name key ⊎ IsNamed d name key))
