-- How clients are taken into a round, and replied to: words of the crate's own functions.
-- Inner: it serves proofs alone, and no promise rests on it.
use Rattle.std.specs.Prelude.{◌≡◌, ⊤, ℕ, List, [], ◌∷◌, ◌++◌, length, map, flat_map}
use Rattle.std.specs.Prelude.{Result, Ok, Err, Some, string_bytes, option_map}
use Rattle.hq_values.specs.Refusals.{no_memory}
use Rattle.hq_rules.specs.Desks.{DeskSight}
use Rattle.hq_requests.specs.declared.directory.Directory.{Directory}
use Rattle.hq_log.specs.Entries.{Telling, exchange_entry}
use Rattle.hq_log.specs.Lines.{LogEntry}
use Rattle.hq_requests.specs.declared.exchanges.Exchange.{Exchange}
use Rattle.hq_requests.specs.declared.reply.Reply.{Reply}
use Rattle.hq_wire.specs.Exchanges.{ask_of}
use Rattle.hq_wire.specs.Replies.{SeenReply, reply_of_fault}
use Rattle.hq_together.specs.Together.{ServedInRound}
use Rattle.hq_serve.specs.Coming.{Serving, Taken, HasOutcome, HaveOutcomes, came_of, sent_of}
use Rattle.hq_serve.specs.Coming.{asks_of, client_of, events_of, sent_each}
use Rattle.hq_serve.specs.Logged.{TimedRequest, timed_of, told_each, told_at_once}
use Rattle.hq_serve.specs.declared.coming.Came.{Came}
use Rattle.hq_serve.specs.declared.rounds.Round.{Round}

-- An exchange is added with its client; or memory was refused, and nothing is added. Nobody is
-- counted.
abbrev pub AddsExchange : {E : Type 0} → Type 0 → ℕ → Exchange → Round → Round → Result ⊤ E → Type 0
AddsExchange refused client x old new (Ok _) = (new.taken ≡ old.taken)
    × (new.clients.items ≡ old.clients.items ++ client ∷ [])
    × (new.exchanges.items ≡ old.exchanges.items ++ x ∷ [])
AddsExchange refused client x old new (Err error) = refused × (new.taken ≡ old.taken)
    × (new.clients.items ≡ old.clients.items) × (new.exchanges.items ≡ old.exchanges.items)

-- the request that an exchange is, and its moment
abbrev pub timed : Exchange → TimedRequest
timed x = record {
  at = x.at;
  request = record {
    method = string_bytes x.method;
    path = string_bytes x.path;
    key = option_map string_bytes x.key;
    body = x.body.items;
  };
}

-- what a log is told of an exchange and its reply
abbrev pub reply_entry : Exchange → Reply → LogEntry
reply_entry x reply = exchange_entry (Some x.at) (Some x) reply

-- One that came is replied to at once, or its request is added. Nobody is counted.
pub record IsTakenInto {K L : Type 0} (refused : Type 0) (does : Serving K) (tells : Telling L)
    (came : Came) (clients_old clients_new : K) (log_old log_new : L) (old new : Round) : Type 0
  where
    pub taken : Taken
    pub is_taken : HasOutcome refused taken
    pub is_of : came_of taken ≡ came
    pub sent : does clients_old (sent_of taken) clients_new
    pub told : tells log_old (told_at_once taken) log_new
    pub uncounted : new.taken ≡ old.taken
    pub clients : new.clients.items ≡ old.clients.items ++ client_of taken
    pub exchanges : (d : Directory) → map (ask_of d) new.exchanges.items
        ≡ map (ask_of d) old.exchanges.items ++ asks_of d taken
    pub requests : map timed new.exchanges.items ≡ map timed old.exchanges.items ++ timed_of taken

-- These were taken into a round, which counts them and has the requests among them.
pub record Takes {K L : Type 0} (refused : Type 0) (does : Serving K) (tells : Telling L)
    (clients_old clients_new : K) (log_old log_new : L) (round : Round) : Type 0 where
  pub taken : List Taken
  pub are_taken : HaveOutcomes refused taken
  pub did : does clients_old (flat_map events_of taken) clients_new
  pub told : tells log_old (flat_map told_at_once taken) log_new
  pub counted : round.taken ≡ length taken
  pub clients : round.clients.items ≡ flat_map client_of taken
  pub exchanges : (d : Directory) → map (ask_of d) round.exchanges.items
      ≡ flat_map (asks_of d) taken
  pub requests : map timed round.exchanges.items ≡ flat_map timed_of taken

-- that memory was wanted, of each exchange
abbrev pub wants_of : List Exchange → List SeenReply
wants_of exchanges = map (λ (x : Exchange). reply_of_fault no_memory) exchanges

-- each exchange has its client
abbrev pub IsEven : Round → Type 0
IsEven round = length round.clients.items ≡ length round.exchanges.items

-- The exchanges of a round are done, each of its clients is sent the reply to its own, and that is
-- told.
pub record RepliesToRound {K L D : Type 0} (sight : DeskSight D) (d : Directory) (does : Serving K)
    (tells : Telling L) (round : Round) (clients_old clients_new : K) (log_old log_new : L)
    (old new : D) : Type 0 where
  pub replies : List SeenReply
  pub served : ServedInRound sight d old (map (ask_of d) round.exchanges.items) replies new
  pub sent : does clients_old (sent_each round.clients.items replies) clients_new
  pub told : tells log_old (told_each d (map timed round.exchanges.items) replies) log_new
