-- What a desk is set up with, and what is refused of it. The order of the refusals is this
-- product's own: the relay's name, the form of its key, the directory, the keys beside it, and then
-- whether the relay's key is one of a customer.
use Rattle.std.specs.Prelude.{ℕ, not, List, [], Result, Ok}
use Rattle.hq_values.specs.Readers.{◌>>=◌, checked, guard}
use Rattle.hq_values.specs.declared.failure.Refusal.{Refusal}
use Rattle.hq_values.specs.declared.failure.Refusal.TheVariants.{BadRelayKey}
use Rattle.hq_values.specs.Words.{host_in, is_key}
use Rattle.hq_import.specs.Directories.{customers_in}
use Rattle.hq_import.specs.Keys.{is_key_taken}
use Rattle.hq_import.specs.declared.keys.NamedKey.{NamedKey}
use Rattle.hq_kept.specs.declared.account.Customer.{Customer}

-- a relay: its name and its key
pub record Named : Type 0 where
  pub host : List ℕ
  pub key : List ℕ

-- a relay, its customers, and the keys that they have beside their own
pub record Set : Type 0 where
  pub relay : Named
  pub customers : List Customer
  pub keys : List NamedKey

-- a relay's key has the form of a key
abbrev pub relay_key_in : List ℕ → Result (List ℕ) Refusal
relay_key_in text = checked text (is_key text) BadRelayKey

-- the relay of a name and a key: 56, or else 57
abbrev pub relay_in : List ℕ → List ℕ → Result Named Refusal
relay_in host_text key_text = do
  host ← host_in host_text
  key ← relay_key_in key_text
  Ok (record { host = host; key = key })

-- a relay with these customers and keys: 57 where the relay's key is one of them
abbrev pub settings_with : Named → List Customer → List NamedKey → Result Set Refusal
settings_with relay customers keys = do
  own ← guard (not (is_key_taken customers keys relay.key)) BadRelayKey
  Ok (record { relay = relay; customers = customers; keys = keys })

-- a relay with the customers of a directory, none of whom has a key beside its own: the first fault
-- of the file, or else 57
abbrev pub settings_of : Named → List ℕ → Result Set Refusal
settings_of relay file = customers_in file >>= (λ customers. settings_with relay customers [])
