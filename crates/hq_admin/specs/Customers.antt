-- The customer that an administrator names.
use Rattle.std.specs.Prelude.{ℕ, List, Option, Some, None, Result, Ok, Err}
use Rattle.std.specs.List.{find}
use Rattle.hq_values.specs.Readers.{◌>>=◌}
use Rattle.hq_values.specs.declared.failure.Refusal.{Refusal}
use Rattle.hq_values.specs.declared.failure.Refusal.TheVariants.{NoCustomer}
use Rattle.hq_import.specs.Directories.{customers_in}
use Rattle.hq_kept.specs.Customers.{has_name}
use Rattle.hq_kept.specs.declared.account.Customer.{Customer}
use Rattle.hq_kept.specs.declared.account.Entry.{Entry}

-- what the desk knows of a customer that was found, or 13
abbrev pub found : Option Customer → Result Entry Refusal
found (Some customer) = Ok customer.entry
found None = Err NoCustomer

-- the first customer of a directory that has this name, byte for byte: the first fault of the file,
-- or else 13 where none has
abbrev pub entry_named : List ℕ → List ℕ → Result Entry Refusal
entry_named file name = do
  customers ← customers_in file
  found (find (has_name name) customers)
