-- How a round is printed, and what the word `sweep` does.
use Rattle.std.specs.Prelude.{ℕ, ◌≡◌, List, Option, Some, None, Result, Ok, Err}
use Rattle.hq_values.specs.declared.failure.Fault.{Fault}
use Rattle.hq_tables.specs.Shelves.{Sight}
use Rattle.hq_rules.specs.declared.render.Rendered.{Rendered}
use Rattle.hq_admin.specs.declared.rounds.ToldAll.{ToldAll}
use Rattle.hq_batch.specs.Printing.{IsPrinted, ArePrinted}
use Rattle.hq_settings.specs.Steps.{Reading}
use Rattle.hq_settings.specs.declared.trouble.Trouble.{Trouble}
use Rattle.hq_sql_admin.specs.Rounds.{SweepAllEnds}
use Rattle.hq_sql_shelf.specs.Stores.{Doing}
use Rattle.hq_sql_admin.specs.Words.{SweepEnds}
use Rattle.hq_words.specs.declared.options.Sweep.{Sweep}

-- the exit status of a round: that of what was printed of it, and 1 where a fault stopped it
abbrev pub round_status : Option Fault → ℕ → ℕ
round_status None printed = printed
round_status (Some fault) printed = 1

-- What a round came to is printed, of those whose calls were done; or the trouble before it is
-- told.
abbrev pub IsRoundPrinted : Result ToldAll Trouble → Type 0 → Option (List ℕ) → Option (List ℕ) → ℕ
    → Type 0
IsRoundPrinted (Ok done) unwritten old new status =
    (printed : ℕ) × ArePrinted done.told.items old new printed
    × (status ≡ round_status done.stopped printed)
IsRoundPrinted (Err trouble) unwritten old new status = unwritten × (status ≡ 1)

module _ {K S : Type 0} (reads : Reading) (sight : Sight S) (does : Doing K S)
    (stores_old stores_new : K) where
  -- The customer that is named is swept, or all are where none is, and it is printed.
  abbrev pub DoesSweep : Sweep → Option (List ℕ) → Type 0 → Option (List ℕ) → Option (List ℕ) → ℕ →
      Type 0
  DoesSweep given (Some name) unwritten old new status =
      (done : Result Rendered Trouble)
      × SweepEnds reads sight does stores_old stores_new given name done
      × IsPrinted done unwritten old new status
  DoesSweep given None unwritten old new status =
      (done : Result ToldAll Trouble)
      × SweepAllEnds sight does stores_old stores_new reads given done
      × IsRoundPrinted done unwritten old new status
