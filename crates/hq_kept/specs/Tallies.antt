-- Sums of a tally.
use Rattle.std.specs.Prelude.{ℕ, ◌+◌, ◌-◌, ◌^◌, min}
use Rattle.hq_kept.specs.declared.account.Tally.{Tally}

-- how many recipients of a customer left the queue
abbrev pub all_gone : Tally → ℕ
all_gone tally = tally.delivered + tally.failed + tally.deleted + tally.expired

-- The number of the last of them: as many left. It stays at the greatest number of 64 bits.
abbrev pub last_gone : Tally → ℕ
last_gone tally = min (all_gone tally) (2 ^ 64 - 1)
