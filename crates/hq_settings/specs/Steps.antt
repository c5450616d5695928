-- Steps, each of which may end all in trouble, and the first of them: files that words name.
use Rattle.std.specs.Prelude.{ℕ, ◌≡◌, ⊤, List, [], Option, Some, None, Result, Ok, Err}
use Rattle.hq_values.specs.Readers.{Reads}
use Rattle.hq_values.specs.Refusals.{no_memory}
use Rattle.hq_values.specs.declared.failure.Fail.TheVariants.{Fault as AsFault}
use Rattle.hq_values.specs.declared.failure.Refusal.{Refusal}
use Rattle.hq_import.specs.Directories.{customers_in}
use Rattle.hq_import.specs.Keys.{keys_in}
use Rattle.hq_import.specs.declared.keys.NamedKey.{NamedKey}
use Rattle.hq_import.specs.declared.refused.DirectoryRefusal.{DirectoryRefusal}
use Rattle.hq_kept.specs.declared.account.Customer.{Customer}
use Rattle.hq_settings.specs.declared.trouble.Trouble.{Trouble}
use Rattle.hq_settings.specs.declared.trouble.Trouble.TheVariants.{File, Desk, Keys}

-- what comes after a step: the next one with its value, or its trouble
abbrev pub Goes : {A B : Type 0} → (A → Result B Trouble → Type 0) → Result A Trouble →
    Result B Trouble → Type 0
Goes next (Ok value) result = next value result
Goes next (Err trouble) result = result ≡ Err trouble

-- a step, and what comes after it
abbrev pub Then : {A B : Type 0} → (Result A Trouble → Type 0) → (A → Result B Trouble → Type 0) →
    Result B Trouble → Type 0
Then {A} first next result = (found : Result A Trouble) × first found × Goes next found result

-- a value that is read, or its refusal, or want of memory
abbrev pub IsRead : {A : Type 0} → Result A Refusal → Result A Trouble → Type 0
IsRead reading (Ok value) = Reads (Ok value) reading
IsRead reading (Err (Desk fail)) = Reads (Err fail) reading
IsRead reading (Err _) = ⊥

-- no file was read: it could not be, or memory ran out
abbrev pub IsUnread : Trouble → Type 0
IsUnread File = ⊤
IsUnread (Desk (AsFault fault)) = fault ≡ no_memory
IsUnread _ = ⊥

-- what reading the file of a path gave, by those who read it
abbrev pub Reading : Type 1
Reading = List ℕ → Result (List ℕ) Trouble → Type 0

-- the bytes of the file of a path, as it was read; or that it could not be, or want of memory
abbrev pub IsFile : Reading → List ℕ → Result (List ℕ) Trouble → Type 0
IsFile reads path (Ok bytes) = reads path (Ok bytes)
IsFile reads path (Err trouble) = reads path (Err trouble) × IsUnread trouble

-- the customers of the directory of a path
abbrev pub HasCustomers : Reading → List ℕ → Result (List Customer) Trouble → Type 0
HasCustomers reads path = Then (IsFile reads path) (λ file. IsRead (customers_in file))

-- what is read of a file of keys, its refusal, or want of memory
abbrev pub AreKeysRead : {A : Type 0} → Result A DirectoryRefusal → Result A Trouble → Type 0
AreKeysRead reading (Ok keys) = reading ≡ Ok keys
AreKeysRead reading (Err (Keys refusal)) = reading ≡ Err refusal
AreKeysRead reading (Err (Desk (AsFault fault))) = fault ≡ no_memory
AreKeysRead reading (Err _) = ⊥

-- the keys that these customers have beside their own: those of the file of a path, if one is
-- named, and else none
abbrev pub HasKeys : Reading → List Customer → Option (List ℕ) → Result (List NamedKey) Trouble →
    Type 0
HasKeys reads customers None found = found ≡ Ok []
HasKeys reads customers (Some path) found =
    Then (IsFile reads path) (λ file. AreKeysRead (keys_in customers file)) found
