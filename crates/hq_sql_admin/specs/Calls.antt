-- One call over the store of a path, however it ends.
use Rattle.std.specs.Prelude.{◌≡◌, ℕ, List, Result, Ok, Err}
use Rattle.hq_values.specs.declared.failure.Fail.TheVariants.{Fault as AsFault}
use Rattle.hq_values.specs.declared.failure.Fault.{Fault}
use Rattle.hq_tables.specs.Shelves.{Sight}
use Rattle.hq_sql_shelf.specs.Stores.{Doing, OverStore}
use Rattle.hq_rules.specs.declared.render.Rendered.{Rendered}
use Rattle.hq_admin.specs.Performs.{Performs}
use Rattle.hq_admin.specs.declared.performing.AdminCall.{AdminCall}
use Rattle.hq_settings.specs.declared.trouble.Trouble.{Trouble}
use Rattle.hq_settings.specs.declared.trouble.Trouble.TheVariants.{Desk}

-- what a call ended with, as it is told
abbrev pub trouble_told : Result Rendered Fault → Result Rendered Trouble
trouble_told (Ok rendered) = Ok rendered
trouble_told (Err fault) = Err (Desk (AsFault fault))

-- a call is done over this shelf, `left` is the shelf after it, and what it ended with is told
abbrev pub PerformsOver : {S : Type 0} → Sight S → AdminCall → Result Rendered Trouble → S → S →
    Type 0
PerformsOver sight asked result shelf left = (done : Result Rendered Fault)
    × Performs sight shelf left asked done × (result ≡ trouble_told done)

-- A call is done over the store of a path, which is left as the call leaves it; or the fault for
-- which it could not be opened is told.
abbrev pub PerformsAt : {K S : Type 0} → Sight S → Doing K S → List ℕ → K → K → AdminCall →
    Result Rendered Trouble → Type 0
PerformsAt sight does path old new asked result = OverStore sight does path old new
    (PerformsOver sight asked result) (λ fault. result ≡ Err (Desk (AsFault fault)))

-- ---- what a word asks for

-- what is asked for is done; or the trouble in it is told, and nothing was done to a store
abbrev pub GoesOver : {A B : Type 0} → Type 0 → (A → Result B Trouble → Type 0) →
    Result A Trouble → Result B Trouble → Type 0
GoesOver untouched over (Ok asked) result = over asked result
GoesOver untouched over (Err trouble) result = untouched × (result ≡ Err trouble)

-- what a word asks for by what it is given, and what comes of that
abbrev pub WordEnds : {A B : Type 0} → Type 0 → (Result A Trouble → Type 0) →
    (A → Result B Trouble → Type 0) → Result B Trouble → Type 0
WordEnds {A} untouched asks over result = (asked : Result A Trouble) × asks asked
    × GoesOver untouched over asked result
