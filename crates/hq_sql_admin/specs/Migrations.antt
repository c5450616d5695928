-- How the word `migrate` ends. What a file holds is said by no contract, so nothing is said here of
-- which stores can be migrated.
use Rattle.std.specs.Prelude.{ℕ, ◌≡◌, ◌++◌, ◌⊎◌, List, [], ◌∷◌, codes, decimal, Result, Ok, Err}
use Rattle.hq_values.specs.Refusals.{no_memory}
use Rattle.hq_values.specs.declared.failure.Fail.TheVariants.{Fault as AsFault}
use Rattle.hq_values.specs.declared.failure.Fault.{Fault}
use Rattle.hq_rules.specs.declared.render.Rendered.{Rendered}
use Rattle.hq_settings.specs.declared.trouble.Trouble.{Trouble}
use Rattle.hq_settings.specs.declared.trouble.Trouble.TheVariants.{Desk}
use Rattle.hq_sql_admin.specs.Calls.{trouble_told}
use Rattle.hq_sql_shelf.specs.Stores.{Doing, migrated}
use Rattle.hq_words.specs.declared.options.Migrate.{Migrate}

-- how many messages were on hold, on a line
unfoldable pub migration_line : ℕ → List ℕ
migration_line count = codes "migrated " ++ decimal count ++ codes " on hold\n"

-- a migration that is done is told, or there is no memory to tell it; a fault is told as it is
abbrev pub IsMigrationTold : Result ℕ Fault → Result Rendered Fault → Type 0
IsMigrationTold (Ok count) (Ok rendered) = (rendered.number ≡ 0)
    × (rendered.bytes.items ≡ migration_line count)
IsMigrationTold (Ok count) (Err fault) = fault ≡ no_memory
IsMigrationTold (Err fault) result = result ≡ Err fault

-- There is no memory to begin with, and nothing is done to a store; or the store of the path is
-- migrated, nothing else is done to one, and it is told what came of it.
abbrev pub MigrateEnds : {K S : Type 0} → Doing K S → K → K → Migrate → Result Rendered Trouble →
    Type 0
MigrateEnds does old new given result =
    ((result ≡ Err (Desk (AsFault no_memory))) × (new ≡ old))
    ⊎ ((done : Result ℕ Fault) × (shown : Result Rendered Fault) × IsMigrationTold done shown
    × (result ≡ trouble_told shown) × does old (migrated given.store.now done ∷ []) new)
