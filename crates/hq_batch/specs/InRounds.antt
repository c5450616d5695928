-- A batch in rounds: some lines, one behind the other, are done together.
use Rattle.std.specs.Prelude.{◌≡◌, ◌≤◌, ◌<◌, ℕ, List, length, map, Option}
use Rattle.hq_values.specs.Turns.{InTurn}
use Rattle.hq_tables.specs.Shelves.{OnOpenSound}
use Rattle.hq_rules.specs.Desks.{DeskSight}
use Rattle.hq_log.specs.Entries.{Telling}
use Rattle.hq_requests.specs.declared.directory.Directory.{Directory}
use Rattle.hq_wire.specs.Exchanges.{Ask}
use Rattle.hq_wire.specs.Replies.{SeenReply}
use Rattle.hq_wire.specs.Runs.{AllReplied, Alone}
use Rattle.hq_together.specs.Sessions.{all_in}
use Rattle.hq_together.specs.Together.{ServedInRound}
use Rattle.hq_lines.specs.Fields.{LineRequest}
use Rattle.hq_batch.specs.Batches.{TellsLinesOf, ask_in, reply_line}

-- how many lines share a round at most
abbrev pub most_lines_together : ℕ
most_lines_together = 64

-- One round, of one line at least: the lines are served together, and their replies written as
-- lines.
pub record RoundReplied {D : Type 0} (sight : DeskSight D) (d : Directory) (old : D)
    (asked : List (Option LineRequest)) (lines : List (List ℕ)) (new : D) : Type 0 where
  pub replies : List SeenReply
  pub lines_are : lines ≡ map reply_line replies
  pub some : 0 < length asked
  pub few : length asked ≤ most_lines_together
  pub served : ServedInRound sight d old (map (ask_in d) asked) replies new

-- what the lines of rounds ask
abbrev pub asks_in : Directory → List (List (Option LineRequest)) → List Ask
asks_in d asked = all_in (map (map (ask_in d)) asked)

-- Rounds one after another. All lines are replied to as one run is, and to every customer they are
-- its own machine alone. The log is told of each line and its reply, in order, and nothing else.
pub record RepliedInRounds {D L : Type 0} (sight : DeskSight D) (d : Directory) (tells : Telling L)
    (log_old log_new : L) (old : D) (asked : List (List (Option LineRequest)))
    (lines : List (List (List ℕ))) (new : D) : Type 0
  where
    pub rounds : InTurn (RoundReplied sight d) old asked lines new
    pub replied : List (List SeenReply)
    pub lines_are : lines ≡ map (map reply_line) replied
    pub served : InTurn (ServedInRound sight d) old (map (map (ask_in d)) asked) replied new
    pub as_one : OnOpenSound sight.store old new (AllReplied sight.store.may_answer
        (sight.host old) d (sight.store.tables old) (asks_in d asked) (all_in replied)
        (sight.store.tables new))
    pub alone : OnOpenSound sight.store old new (Alone (sight.host old) d (asks_in d asked)
        (all_in replied) (sight.store.tables old) (sight.store.tables new))
    pub told : TellsLinesOf d tells log_old log_new (all_in asked) (all_in replied)

-- that by two desks, before the rounds and after them
abbrev pub RepliedBy : {D L : Type 0} → DeskSight D → Directory → Telling L → L → L → D → D →
    List (List (Option LineRequest)) → List (List (List ℕ)) → Type 0
RepliedBy sight d tells log_old log_new old new asked lines =
    RepliedInRounds sight d tells log_old log_new old asked lines new
