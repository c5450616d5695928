-- A batch: each line is replied to as an exchange, in order, and the log is told each reply.
use Rattle.std.specs.Prelude.{◌≡◌, ◌⊎◌, ⊤, ℕ, ◌+◌, ◌/◌, ◌%◌, List, [], ◌∷◌, ◌++◌, map}
use Rattle.std.specs.Prelude.{Option, None, Some, option_map, option_and_then, Err}
use Rattle.hq_values.specs.Refusals.{no_memory}
use Rattle.hq_values.specs.declared.failure.Refusal.TheVariants.{BadRequest}
use Rattle.hq_rules.specs.Desks.{DeskSight}
use Rattle.hq_requests.specs.Calls.{call_from}
use Rattle.hq_requests.specs.Named.{whose_at}
use Rattle.hq_log.specs.Entries.{Telling}
use Rattle.hq_log.specs.Lines.{LogEntry}
use Rattle.hq_wire.specs.Exchanges.{Ask}
use Rattle.hq_wire.specs.Replies.{SeenReply, reply_of_fault}
use Rattle.hq_wire.specs.Runs.{Served}
use Rattle.hq_requests.specs.declared.directory.Directory.{Directory}
use Rattle.hq_lines.specs.Fields.{LineRequest}

-- What a line asks: what its exchange asks; a line that cannot be read is refused as 1.
abbrev pub ask_in : Directory → Option LineRequest → Ask
ask_in d None = record { at = 0; called = Err BadRequest }
ask_in d (Some q) = record { at = q.at; called = call_from d q.method q.path q.key q.body }

-- a status is three digits (RFC 9110, 15)
unfoldable pub three_digits : ℕ → List ℕ
three_digits n = (48 + n / 100 % 10) ∷ (48 + n / 10 % 10) ∷ (48 + n % 10) ∷ []

-- a reply as a line: its status, a space (32), its body, and LF (10)
abbrev pub reply_line : SeenReply → List ℕ
reply_line r = three_digits r.status ++ 32 ∷ r.body ++ 10 ∷ []

-- ---- the log

-- the moment of a line that can be read
abbrev pub moment_of : Option LineRequest → Option ℕ
moment_of request = option_map (λ (q : LineRequest). q.at) request

-- What is told of a line and its reply, by the line's moment and what is known of it. Without that
-- there is neither customer nor method nor path.
abbrev pub batch_entry : Directory → Option ℕ → Option LineRequest → SeenReply → LogEntry
batch_entry d at known r = record {
  at = at;
  whose = option_and_then (λ (q : LineRequest). whose_at d q.key q.path) known;
  method = option_map (λ (q : LineRequest). q.method) known;
  path = option_map (λ (q : LineRequest). q.path) known;
  status = r.status;
  body = r.body;
}

-- The entry is of what the line asks for, and of its reply. But if there was no room for the line's
-- exchange, which is replied, it may lack customer, method and path.
abbrev pub IsEntryOf : Directory → Option LineRequest → SeenReply → LogEntry → Type 0
IsEntryOf d request r e = (e ≡ batch_entry d (moment_of request) request r)
    ⊎ ((r ≡ reply_of_fault no_memory) × (e ≡ batch_entry d (moment_of request) None r))

-- each line and its reply has its entry, in order
abbrev pub AreEntriesOf : Directory → List (Option LineRequest) → List SeenReply →
    List LogEntry → Type 0
AreEntriesOf d [] [] [] = ⊤
AreEntriesOf d (request ∷ asked) (r ∷ replies) (e ∷ told) = IsEntryOf d request r e
    × AreEntriesOf d asked replies told
AreEntriesOf d _ _ _ = ⊥

-- the log is told one entry of each line and its reply, in order, and nothing else
abbrev pub TellsLinesOf : {L : Type 0} → Directory → Telling L → L → L →
    List (Option LineRequest) → List SeenReply → Type 0
TellsLinesOf d tells log_old log_new asked replies = (told : List LogEntry)
    × AreEntriesOf d asked replies told × tells log_old told log_new

-- ---- all of it

-- What a batch does with what lines ask for: each is served as an exchange, the replies are written
-- as lines, and the log is told of each line and its reply.
abbrev pub Replied : {D L : Type 0} → DeskSight D → Directory → Telling L → L → L → D →
    List (Option LineRequest) → List (List ℕ) → D → Type 0
Replied sight d tells log_old log_new old asked lines new = (replies : List SeenReply)
    × (lines ≡ map reply_line replies)
    × Served sight d old (map (ask_in d) asked) replies new
    × TellsLinesOf d tells log_old log_new asked replies
