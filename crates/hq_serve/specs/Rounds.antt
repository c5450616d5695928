-- What a server does whose clients' exchanges are done in rounds.
use Rattle.std.specs.Prelude.{◌≡◌, ◌≤◌, ◌<◌, ◌+◌, ℕ, List, length, map, flat_map}
use Rattle.hq_values.specs.Turns.{InTurn}
use Rattle.hq_tables.specs.Shelves.{OnOpenSound}
use Rattle.hq_rules.specs.Desks.{DeskSight}
use Rattle.hq_log.specs.Entries.{Telling}
use Rattle.hq_requests.specs.declared.directory.Directory.{Directory}
use Rattle.hq_wire.specs.Exchanges.{with_refusals}
use Rattle.hq_wire.specs.Runs.{AllReplied, Alone}
use Rattle.hq_together.specs.Sessions.{all_in}
use Rattle.hq_together.specs.Together.{ServedInRound}
use Rattle.hq_serve.specs.Coming.{Serving, HaveOutcomes, RoundDone, round_taken, round_replies}
use Rattle.hq_serve.specs.Coming.{round_asks, round_events}
use Rattle.hq_serve.specs.Logged.{round_told}
use Rattle.hq_serve.specs.declared.coming.ServiceEnd.{ServiceEnd}
use Rattle.hq_serve.specs.declared.coming.ServiceEnd.TheVariants.{Done, Network, Clock}

-- What a desk did in these rounds, one after another, and nothing else. All of it is replied to as
-- one run is, and to every customer it is its own machine alone.
pub record DoesRounds {D : Type 0} (sight : DeskSight D) (d : Directory) (rounds : List RoundDone)
    (old new : D) : Type 0 where
  pub served : InTurn (ServedInRound sight d) old (map (round_asks d) rounds)
      (map round_replies rounds) new
  pub as_one : OnOpenSound sight.store old new (AllReplied sight.store.may_answer (sight.host old)
      d (sight.store.tables old) (all_in (map (round_asks d) rounds))
      (all_in (map round_replies rounds)) (sight.store.tables new))
  pub alone : OnOpenSound sight.store old new (Alone (sight.host old) d
      (all_in (map (round_asks d) rounds)) (all_in (map round_replies rounds))
      (sight.store.tables old) (sight.store.tables new))

-- Why no more are served, of so many that came, so many that are left, and so many that were taken.
-- None is left; or some are left; or the clock gave no moment, and more came than were taken.
abbrev pub IsOver : ServiceEnd → ℕ → ℕ → ℕ → Type 0
IsOver Done came left taken = left ≡ 0
IsOver Network came left taken = 0 < left
IsOver Clock came left taken = taken < came

-- The clients that came in these rounds are all that came, in order. Each is replied to once, to
-- what it asked itself, and nobody else is sent anything. The log is told each reply, with what it
-- replies to, and nothing else. The desk does their exchanges, and nothing else. Of the connections
-- that were to come some came, with one request each at most, and the others are left.
pub record ServesRounds {K L D : Type 0} (refused : Type 0) (sight : DeskSight D) (d : Directory)
    (does : Serving K) (tells : Telling L) (coming left : ℕ) (why : ServiceEnd)
    (clients_old clients_new : K) (log_old log_new : L) (old new : D) : Type 0 where
  pub rounds : List RoundDone
  pub are_taken : HaveOutcomes refused (flat_map round_taken rounds)
  pub clients : does clients_old (flat_map round_events rounds) clients_new
  pub told : tells log_old (flat_map (round_told d) rounds) log_new
  pub desk : DoesRounds (with_refusals refused sight) d rounds old new
  pub came : ℕ
  pub counted : came + left ≡ coming
  pub one_each : length (flat_map round_taken rounds) ≤ came
  pub over : IsOver why came left (length (flat_map round_taken rounds))
