-- What is said of a shelf that fails as told.
-- Inner: it serves proofs alone, and no promise rests on it.
use Rattle.std.specs.Prelude.{ℕ}
use Rattle.hq_trial.specs.declared.failing_shelf.FailingShelf.{FailingShelf}
use Rattle.hq_trial.specs.declared.failure.Trial.{Trial}

-- the shelf that it stands before
abbrev pub inner_of : {S : Type 0} → FailingShelf S → S
inner_of shelf = shelf.inner

-- what it remembers
abbrev pub trial_of : {S : Type 0} → FailingShelf S → Trial
trial_of shelf = shelf.trial

-- the greatest number of messages that was asked for at once
abbrev pub greatest_limit_of : {S : Type 0} → FailingShelf S → ℕ
greatest_limit_of s = s.greatest_limit
