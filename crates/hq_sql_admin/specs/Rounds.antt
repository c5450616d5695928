-- Rounds, one call of each customer: what their words ask for, each check before those behind it,
-- and what is done over a store.
use Rattle.std.specs.Prelude.{ℕ, ◌≡◌, List, codes, Result, Ok, Err}
use Rattle.hq_values.specs.Refusals.{no_memory}
use Rattle.hq_values.specs.declared.failure.Fail.TheVariants.{Fault as AsFault}
use Rattle.hq_values.specs.declared.failure.Fault.{Fault}
use Rattle.hq_values.specs.Words.{host_in}
use Rattle.hq_kept.specs.declared.account.Customer.{Customer}
use Rattle.hq_tables.specs.Shelves.{Sight}
use Rattle.hq_sql_shelf.specs.Stores.{Doing, OverStore}
use Rattle.hq_rules.specs.declared.each.EachCall.{EachCall}
use Rattle.hq_rules.specs.declared.each.EachCall.TheVariants.{Sweep as SweepOf, Usage as UsageOf}
use Rattle.hq_desk.specs.Desks.{host_of, on, shelf_of}
use Rattle.hq_desk.specs.declared.desk.Desk.{Desk}
use Rattle.hq_admin.specs.Rounds.{CallsEach}
use Rattle.hq_admin.specs.declared.rounds.ToldAll.{ToldAll}
use Rattle.hq_settings.specs.declared.trouble.Trouble.{Trouble}
use Rattle.hq_settings.specs.declared.trouble.Trouble.TheVariants.{Desk as AsDesk}
use Rattle.hq_settings.specs.Steps.{Then, HasCustomers, IsRead, Reading}
use Rattle.hq_words.specs.declared.options.Sweep.{Sweep}
use Rattle.hq_words.specs.declared.options.UsageWord.{UsageWord}
use Rattle.hq_sql_admin.specs.declared.rounds.Round.{Round}
use Rattle.hq_sql_admin.specs.Calls.{WordEnds}

-- the round of such a relay, moment and call, of these customers
abbrev pub IsRound : List ℕ → ℕ → EachCall → List Customer → Result Round Trouble → Type 0
IsRound host at each customers (Ok asked) = (asked.host ≡ host) × (asked.at ≡ at)
    × (asked.each ≡ each) × (asked.customers.items ≡ customers)
IsRound host at each customers (Err trouble) = ⊥

-- that of the customers of the directory of a path, where the relay's name is good
abbrev pub AsksRound : Reading → List ℕ → ℕ → EachCall → List ℕ → Result Round Trouble → Type 0
AsksRound reads host at each directory = Then (IsRead (host_in host)) (λ name.
    Then (HasCustomers reads directory) (IsRound name at each))

-- the sweeps, at a moment
abbrev pub SweepAllAsks : Reading → Sweep → Result Round Trouble → Type 0
SweepAllAsks reads given = AsksRound reads given.host.now given.at SweepOf given.directory.now

-- the usages; their relay's name and moment show nowhere
abbrev pub UsageAsks : Reading → UsageWord → Result Round Trouble → Type 0
UsageAsks reads given = AsksRound reads (codes "localhost") 0 UsageOf given.directory.now

-- A desk over this shelf makes the calls, and `left` is the shelf after them; or there is no memory
-- for what is told of them, and then it makes none.
abbrev pub RoundOver : {S : Type 0} → Sight S → Round → Result ToldAll Trouble → S → S → Type 0
RoundOver {S} sight asked (Ok told) shelf left = (old : Desk S) × (new : Desk S)
    × (host_of old ≡ asked.host) × (shelf_of old ≡ shelf) × (shelf_of new ≡ left)
    × CallsEach (on sight) old new asked.at asked.each asked.customers.items told
RoundOver sight asked (Err trouble) shelf left = (trouble ≡ AsDesk (AsFault no_memory))
    × (left ≡ shelf)

module _ {K S : Type 0} (sight : Sight S) (does : Doing K S) (old new : K) where
  -- That is done over the store of a path, which is left as the calls leave it; or the fault for
  -- which it could not be opened is told.
  abbrev pub RoundAt : List ℕ → Round → Result ToldAll Trouble → Type 0
  RoundAt path asked result = OverStore sight does path old new (RoundOver sight asked result)
      (λ fault. result ≡ Err (AsDesk (AsFault fault)))

  -- How the words end: with the trouble of what they are given, and then nothing is done to a
  -- store; or as the round over the store of their path does.
  abbrev pub SweepAllEnds : Reading → Sweep → Result ToldAll Trouble → Type 0
  SweepAllEnds reads given = WordEnds (new ≡ old) (SweepAllAsks reads given)
      (RoundAt given.store.now)

  abbrev pub UsageEnds : Reading → UsageWord → Result ToldAll Trouble → Type 0
  UsageEnds reads given = WordEnds (new ≡ old) (UsageAsks reads given) (RoundAt given.store.now)
