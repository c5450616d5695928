-- The step of one line, and of rounds, as the loop over lines sees them: words of the crate's own
-- functions.
-- Inner: it serves proofs alone, and no promise rests on it.
use Rattle.std.specs.Prelude.{◌≡◌, ◌⊎◌, ⊤, ℕ, List, [], ◌∷◌, map, Option, Some, None, option_map}
use Rattle.std.specs.Prelude.{Result, string_bytes}
use Rattle.std.specs.List.{zip}
use Rattle.hq_values.specs.Turns.{InTurn}
use Rattle.hq_desk.specs.declared.desk.Desk.{Desk}
use Rattle.hq_requests.specs.Named.{whose_asked, whose_told}
use Rattle.hq_log.specs.Entries.{Telling, exchange_entry}
use Rattle.hq_log.specs.Lines.{LogEntry}
use Rattle.hq_log.specs.declared.keeping.Answered.{Answered}
use Rattle.hq_requests.specs.declared.directory.Directory.{Directory}
use Rattle.hq_rules.specs.Desks.{DeskSight}
use Rattle.hq_wire.specs.Exchanges.{Exchanged}
use Rattle.hq_values.specs.Refusals.{no_memory}
use Rattle.hq_wire.specs.Replies.{SeenReply, IsSent, reply_of_fault}
use Rattle.hq_requests.specs.declared.exchanges.Exchange.{Exchange}
use Rattle.hq_requests.specs.declared.reply.Reply.{Reply}
use Rattle.hq_lines.specs.Fields.{LineRequest}
use Rattle.hq_lines.specs.Rounds.{DoesFirst}
use Rattle.hq_batch.specs.Waiting.{line_asked, lines_waiting}
use Rattle.hq_batch.specs.Batches.{IsEntryOf, TellsLinesOf, ask_in, batch_entry, moment_of}
use Rattle.hq_batch.specs.Batches.{reply_line}
use Rattle.hq_batch.specs.InRounds.{RoundReplied}
use Rattle.hq_batch.specs.declared.front.Front.{Front}
use Rattle.hq_batch.specs.declared.rounds.RoundFront.{RoundFront}
use Rattle.hq_batch.specs.declared.front.Replied.{Replied}

-- the exchange that a line asks for
abbrev pub IsOfLine : Exchange → LineRequest → Type 0
IsOfLine x q = (x.at ≡ q.at) × (string_bytes x.method ≡ q.method) × (string_bytes x.path ≡ q.path)
    × (option_map string_bytes x.key ≡ q.key) × (x.body.items ≡ q.body)

-- no exchange was made of a line: it cannot be read; or there was no room for one, which is told,
-- and nothing was done
abbrev pub HasNoExchange : {D : Type 0} → Option LineRequest → D → SeenReply → D → Type 0
HasNoExchange request old r new = (request ≡ None)
    ⊎ ((r ≡ reply_of_fault no_memory) × (new ≡ old))

-- the exchange that is there is what the line asks for
abbrev pub HoldsLine : {D : Type 0} → Option LineRequest → D → SeenReply → D →
    Option Exchange → Type 0
HoldsLine request old r new None = HasNoExchange request old r new
HoldsLine request old r new (Some x) = (q : LineRequest) × (request ≡ Some q) × IsOfLine x q

-- a line is replied to, as it is sent, and its moment and its exchange are at hand
pub record SendsLine {D : Type 0} (sight : DeskSight D) (d : Directory) (old : D)
    (request : Option LineRequest) (replied : Replied) (new : D) : Type 0 where
  pub told : SeenReply
  pub sent : IsSent replied.reply told
  pub done : Exchanged sight d old (ask_in d request) told new
  pub moment : replied.at ≡ moment_of request
  pub holds : HoldsLine request old told new replied.asked
  pub whose : whose_told replied.reply ≡ whose_asked d replied.asked

-- what the log is told of
abbrev pub IsLineToLog : Answered → Replied → Type 0
IsLineToLog told replied = (told.at ≡ replied.at)
    × (option_map (λ x. x.now) told.asked ≡ replied.asked) × (told.reply.now ≡ replied.reply)

-- A line is replied to by itself, and the log is told just that.
pub record LineAnswered {D L : Type 0} (sight : DeskSight D) (d : Directory) (tells : Telling L)
    (log_old log_new : L) (old : D) (request : Option LineRequest) (line : List ℕ) (new : D)
    : Type 0 where
  pub reply : SeenReply
  pub line_is : line ≡ reply_line reply
  pub done : Exchanged sight d old (ask_in d request) reply new
  pub entry : LogEntry
  pub entry_is : IsEntryOf d request reply entry
  pub told : tells log_old (entry ∷ []) log_new

-- The step of a line, and its reply as it is written; the directory stays, and so do the desk and
-- the log that are lent.
pub record LineStep {D L M : Type 0} (sight : DeskSight D) (tells : Telling L)
    (old : Front D L M) (request : Option LineRequest) (line : List ℕ) (new : Front D L M) : Type 0
  where
    pub directory : new.directory ≡ old.directory
    pub same_desk : new.desk.ghost_name ≡ old.desk.ghost_name
    pub same_log : new.log.ghost_name ≡ old.log.ghost_name
    pub answered : LineAnswered sight old.directory.now tells old.log.now new.log.now
        old.desk.now request line new.desk.now

-- ---- in rounds

-- what the log is told of an exchange and its reply
abbrev pub replied_entry : Exchange → Reply → LogEntry
replied_entry x reply = exchange_entry (Some x.at) (Some x) reply

-- of each exchange and the reply beside it
abbrev pub replied_entries : List Exchange → List Reply → List LogEntry
replied_entries asked replies = map (λ (p : Exchange × Reply). replied_entry p.0 p.1)
    (zip asked replies)

-- of an exchange for which memory was wanted
abbrev pub wanted_entry : Directory → Exchange → LogEntry
wanted_entry d x = batch_entry d (Some x.at) (Some (line_asked x)) (reply_of_fault no_memory)

-- A desk, and the log that is told what it replies.
pub record DeskAndLog (D L : Type 0) : Type 0 where
  pub desk : D
  pub log : L

-- a round, and the log is told of its lines and their replies
pub record RoundTold {D L : Type 0} (sight : DeskSight D) (d : Directory) (tells : Telling L)
    (old : DeskAndLog D L) (asked : List (Option LineRequest)) (lines : List (List ℕ))
    (new : DeskAndLog D L) : Type 0 where
  pub done : RoundReplied sight d old.desk asked lines new.desk
  pub told : TellsLinesOf d tells old.log new.log asked done.replies

abbrev pub front_with : {S L M : Type 0} → Desk S → RoundFront S L M → DeskAndLog (Desk S) L
front_with desk front = record { desk = desk; log = front.log.now }

-- Rounds one after another. The directory stays, and so do the desk and the log that are lent. The
-- desk that was there is there again.
pub record AnswersInRounds {S L M : Type 0} (sight : DeskSight (Desk S)) (tells : Telling L)
    (old : RoundFront S L M) (asked : List (List (Option LineRequest)))
    (lines : List (List (List ℕ))) (new : RoundFront S L M) : Type 0 where
  pub directory : new.directory ≡ old.directory
  pub same_desk : new.desk.ghost_name ≡ old.desk.ghost_name
  pub same_log : new.log.ghost_name ≡ old.log.ghost_name
  pub run : (before : Desk S) → old.desk.now ≡ Some before → (after : Desk S)
      × (new.desk.now ≡ Some after)
      × InTurn (RoundTold sight old.directory.now tells) (front_with before old) asked lines
      (front_with after new)

-- of the lines that waited, and of those that came, the first are answered, and the rest waits
abbrev pub DoesLines : {S L M E : Type 0} → DeskSight (Desk S) → Telling L →
    List (Option LineRequest) → RoundFront S L M → RoundFront S L M → Option (List ℕ) →
    Option (List ℕ) → Result ⊤ E → Type 0
DoesLines {L = L} {M = M} {E = E} sight tells came old new write_old write_new result =
    DoesFirst {E = E} (AnswersInRounds {L = L} {M = M} sight tells)
    (λ front. lines_waiting front.waiting.now.exchanges.items) came old new write_old write_new
    result
