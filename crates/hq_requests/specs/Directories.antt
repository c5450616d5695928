-- Who shows a key, and which customer an exchange is for.
use Rattle.std.specs.Prelude.{ℕ, ⊤, true, List, [], ◌∷◌, map, Option, None, Some, option_map}
use Rattle.std.specs.Prelude.{option_and_then, Result, Ok, Err, if◌then◌else◌}
use Rattle.std.specs.Option.{option_or}
use Rattle.std.specs.List.{find}
use Rattle.std.specs.Ordering.{eq_by_cmp}
use Rattle.hq_values.specs.declared.failure.Refusal.{Refusal}
use Rattle.hq_values.specs.declared.failure.Refusal.TheVariants.{NoKey, WrongRole, NoCustomer}
use Rattle.hq_kept.specs.declared.account.Customer.{Customer}
use Rattle.hq_kept.specs.declared.account.Entry.{Entry}
use Rattle.hq_import.specs.Keys.{opens}
use Rattle.hq_import.specs.declared.keys.NamedKey.{NamedKey}
use Rattle.hq_import.specs.declared.keys.Right.{Right}
use Rattle.hq_import.specs.declared.keys.Right.TheVariants.{All}
use Rattle.hq_requests.specs.declared.keys.Caller.{Caller}
use Rattle.hq_requests.specs.declared.keys.Holder.{Holder}
use Rattle.hq_requests.specs.declared.table.Role.{Role}
use Rattle.hq_requests.specs.declared.table.Role.TheVariants as role
use Rattle.hq_tables.specs.Tables.{text_cmp}
use Rattle.hq_requests.specs.Customers.{has_key, has_name}
use Rattle.hq_requests.specs.declared.directory.Directory.{Directory}

abbrev pub relay_of : Directory → List ℕ
relay_of d = d.relay

abbrev pub customers_of : Directory → List Customer
customers_of d = d.customers

abbrev pub named_keys : Directory → List NamedKey
named_keys d = d.keys

abbrev pub name_of : Customer → List ℕ
name_of c = c.entry.name

-- the names of the customers, in the order of the directory
abbrev pub names_of : Directory → List (List ℕ)
names_of d = map name_of d.customers

-- stands for the entry under a name that no customer has; no call is made for it
abbrev pub nobody : List ℕ → Entry
nobody name = record {
  name = name;
  quota = record {
    messages = 1;
    bytes = 1;
    lines = 1;
    notices = 1;
    limits = λ _. true;
  };
  delay = 0;
  history = 0;
  limit = λ _. true;
  span = λ _. true;
}

abbrev pub entry_in : List Customer → List ℕ → Entry
entry_in [] name = nobody name
entry_in (c ∷ cs) name = if eq_by_cmp text_cmp name c.entry.name then c.entry else entry_in cs name

-- the entry under a name
abbrev pub entry_of : Directory → List ℕ → Entry
entry_of d name = entry_in d.customers name

-- whose an exchange is: the customer, and the name of the key that is shown, where it has one
pub record Whose : Type 0 where
  pub customer : List ℕ
  pub key : Option (List ℕ)

-- whom a key serves, and what it may ask for
pub record Held : Type 0 where
  pub whose : Whose
  pub right : Right

-- as the code has them
abbrev pub whose_seen : Caller → Whose
whose_seen c = record { customer = c.entry.now.name; key = option_map (λ k. k.now) c.key }

abbrev pub held_seen : Holder → Held
held_seen h = record { whose = whose_seen h.caller; right = h.right }

-- a key without a name serves this customer, and may ask for all
abbrev pub in_full : Customer → Held
in_full c = record { whose = record { customer = c.entry.name; key = None }; right = All }

-- a key with a name serves this customer, and may ask for what its right says
abbrev pub by_name : NamedKey → Customer → Held
by_name k c = record {
  whose = record { customer = c.entry.name; key = Some k.name };
  right = k.right;
}

-- a key with a name serves its customer
abbrev pub named_held : List Customer → NamedKey → Option Held
named_held customers k = option_map (by_name k) (find (has_name k.customer) customers)

-- what a text is, that is not the relay's key: a customer's own key, or one with a name
abbrev pub held_with : Directory → List ℕ → Option Held
held_with d key = option_or (option_map in_full (find (has_key key) d.customers))
    (option_and_then (named_held d.customers) (find (opens key) d.keys))

-- the relay's key serves the customer that the path names
abbrev pub by_relay : Role → Option Customer → Result Held Refusal
by_relay role.Customer named = Err WrongRole
by_relay _ None = Err NoCustomer
by_relay _ (Some c) = Ok (in_full c)

-- a key of a customer serves that customer
abbrev pub by_customer : Role → Option Held → Result Held Refusal
by_customer _ None = Err NoKey
by_customer role.Customer (Some held) = Ok held
by_customer _ (Some held) = Err WrongRole

-- whom an exchange is for, on a route of a role, and what its key may ask for
abbrev pub held_on : Directory → Role → Option (List ℕ) → List ℕ → Result Held Refusal
held_on d role None segment = Err NoKey
held_on d role (Some key) segment = if eq_by_cmp text_cmp key d.relay then
    by_relay role (find (has_name segment) d.customers) else by_customer role (held_with d key)

-- who is not the relay: a customer, or nobody
abbrev pub not_relay : Option Held → Result ⊤ Refusal
not_relay None = Err NoKey
not_relay (Some held) = Err WrongRole

-- nothing, where the relay's key is shown
abbrev pub relay_alone : Directory → Option (List ℕ) → Result ⊤ Refusal
relay_alone d None = Err NoKey
relay_alone d (Some key) = if eq_by_cmp text_cmp key d.relay then Ok tt else
    not_relay (held_with d key)
