-- How the words of an administrator end: with the trouble of what they are given, and then nothing
-- is done to a store; or as their call over the store of their path does.
use Rattle.std.specs.Prelude.{◌≡◌, ℕ, List, Result}
use Rattle.hq_tables.specs.Shelves.{Sight}
use Rattle.hq_rules.specs.declared.render.Rendered.{Rendered}
use Rattle.hq_admin.specs.declared.performing.AdminCall.{AdminCall}
use Rattle.hq_settings.specs.declared.trouble.Trouble.{Trouble}
use Rattle.hq_settings.specs.Steps.{Reading}
use Rattle.hq_words.specs.declared.selecting.Moving.{Moving}
use Rattle.hq_words.specs.declared.selecting.Telling.{Telling}
use Rattle.hq_sql_admin.specs.declared.requests.Done.{Done}
use Rattle.hq_sql_admin.specs.declared.requests.Done.TheVariants.{Held, Released, Deleted}
use Rattle.hq_words.specs.declared.options.Import.{Import}
use Rattle.hq_words.specs.declared.options.Sweep.{Sweep}
use Rattle.hq_sql_shelf.specs.Stores.{Doing}
use Rattle.hq_sql_admin.specs.Calls.{PerformsAt, WordEnds}
use Rattle.hq_sql_admin.specs.Requests.{QueueAsks, HistoryAsks, MoveAsks, ImportAsks, SweepAsks}

module _ {K S : Type 0} (reads : Reading) (sight : Sight S) (does : Doing K S) (old new : K) where
  -- the call that a word asks for, over the store of this path
  abbrev pub CallEnds : List ℕ → (Result AdminCall Trouble → Type 0) → Result Rendered Trouble →
      Type 0
  CallEnds store asks = WordEnds (new ≡ old) asks (PerformsAt sight does store old new)

  abbrev pub QueueEnds : Telling → Result Rendered Trouble → Type 0
  QueueEnds given = CallEnds given.store.now (QueueAsks reads given)

  abbrev pub HistoryEnds : Telling → Result Rendered Trouble → Type 0
  HistoryEnds given = CallEnds given.store.now (HistoryAsks reads given)

  abbrev pub HoldEnds : Moving → Result Rendered Trouble → Type 0
  HoldEnds given = CallEnds given.store.now (MoveAsks reads given Held)

  abbrev pub ReleaseEnds : Moving → Result Rendered Trouble → Type 0
  ReleaseEnds given = CallEnds given.store.now (MoveAsks reads given Released)

  abbrev pub DeleteEnds : Moving → Result Rendered Trouble → Type 0
  DeleteEnds given = CallEnds given.store.now (MoveAsks reads given Deleted)

  abbrev pub ImportEnds : Import → Result Rendered Trouble → Type 0
  ImportEnds given = CallEnds given.store.now (ImportAsks reads given)

  abbrev pub SweepEnds : Sweep → List ℕ → Result Rendered Trouble → Type 0
  SweepEnds given name = CallEnds given.store.now (SweepAsks reads given name)
