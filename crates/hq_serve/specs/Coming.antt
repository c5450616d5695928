-- What comes from the clients of a server, and what they are sent.
use Rattle.std.specs.Prelude.{◌≡◌, ◌<◌, ⊤, ℕ, List, [], ◌∷◌, ◌++◌, flat_map}
use Rattle.hq_values.specs.Refusals.{no_memory}
use Rattle.hq_values.specs.declared.failure.Fault.{Fault}
use Rattle.hq_requests.specs.Calls.{call_from}
use Rattle.hq_requests.specs.declared.directory.Directory.{Directory}
use Rattle.hq_wire.specs.Exchanges.{Ask, IsRefused, IsWant}
use Rattle.hq_wire.specs.Replies.{SeenReply, reply_of_fault}
use Rattle.hq_http.specs.Requests.{Request}
use Rattle.hq_http.specs.Stages.{request_seen}
use Rattle.hq_serve.specs.Connections.{response_of}
use Rattle.hq_serve.specs.declared.coming.Asked.{Asked}
use Rattle.hq_serve.specs.declared.coming.Asked.TheVariants as asked
use Rattle.hq_serve.specs.declared.coming.Came.{Came}
use Rattle.hq_serve.specs.declared.coming.Ready.{Ready}
use Rattle.hq_serve.specs.declared.coming.Ready.TheVariants.{Over}
use Rattle.hq_serve.specs.declared.coming.ServiceEnd.{ServiceEnd}
use Rattle.hq_serve.specs.declared.coming.ServiceEnd.TheVariants.{Done, Network, Clock}

-- ---- clients

-- the bytes of a response, to the client of a number
pub record Sent : Type 0 where
  pub client : ℕ
  pub response : List ℕ

-- this came from a client, or this was sent to one
pub data ClientEvent : Type 0 where
  came : Came → ClientEvent
  sent : Sent → ClientEvent

abbrev pub sent_to : ℕ → SeenReply → ClientEvent
sent_to client r = sent (record { client = client; response = response_of r })

-- of each with the one beside it, in order
abbrev pub each_with : {A B C : Type 0} → (A → B → C) → List A → List B → List C
each_with f (x ∷ xs) (y ∷ ys) = f x y ∷ each_with f xs ys
each_with f _ _ = []

-- to each client the reply beside it
abbrev pub sent_each : List ℕ → List SeenReply → List ClientEvent
sent_each = each_with sent_to

-- from one state of all clients to another this came and was sent, in this order, and nothing else
abbrev pub Serving : Type 0 → Type 1
Serving K = K → List ClientEvent → K → Type 0

-- no more come: none is left to come, or some are, unless it is the clock that fails
abbrev pub EndsWith : ℕ → ServiceEnd → Type 0
EndsWith left Done = left ≡ 0
EndsWith left Network = 0 < left
EndsWith left Clock = ⊥

abbrev pub IsReady : ℕ → Ready → Type 0
IsReady left (Over why) = EndsWith left why
IsReady left _ = ⊤

-- ---- what comes of those that came

-- one that came is replied to at once, or its request is in the round
pub data Taken : Type 0 where
  at_once : Came → SeenReply → Taken
  in_round : Came → Request → Taken

abbrev pub came_of : Taken → Came
came_of (at_once one r) = one
came_of (in_round one q) = one

-- what is sent at once
abbrev pub sent_of : Taken → List ClientEvent
sent_of (at_once one r) = sent_to one.client r ∷ []
sent_of (in_round one q) = []

-- one comes, and is sent what it is told at once
abbrev pub events_of : Taken → List ClientEvent
events_of taken = came (came_of taken) ∷ sent_of taken

-- the client whose request is in the round
abbrev pub client_of : Taken → List ℕ
client_of (at_once one r) = []
client_of (in_round one q) = one.client ∷ []

-- what that request asks of the desk, at the moment at which it was taken
abbrev pub asks_of : Directory → Taken → List Ask
asks_of d (at_once one r) = []
asks_of d (in_round one q) = record {
  at = one.at;
  called = call_from d q.method q.path q.key q.body;
} ∷ []

-- want of memory alone, where it was refused
abbrev pub only_memory : Type 0 → Fault → Type 0
only_memory refused fault = (fault ≡ no_memory) × refused

-- At once the refusal of what came is told, or want of memory in its place; and want of memory if
-- there was no room for what came, or for its request among those of the round.
abbrev pub IsToldAtOnce : Type 0 → Asked → SeenReply → Type 0
IsToldAtOnce refused (asked.Refused why) r = IsRefused (only_memory refused) why r
IsToldAtOnce refused asked.NoRoom r = r ≡ reply_of_fault no_memory
IsToldAtOnce refused (asked.Request q) r = IsWant (only_memory refused) r

-- this request came
abbrev pub HasCome : Asked → Request → Type 0
HasCome (asked.Request x) q = request_seen x ≡ q
HasCome _ q = ⊥

-- that came of it
abbrev pub HasOutcome : Type 0 → Taken → Type 0
HasOutcome refused (at_once one r) = IsToldAtOnce refused one.asked r
HasOutcome refused (in_round one q) = HasCome one.asked q

abbrev pub HaveOutcomes : Type 0 → List Taken → Type 0
HaveOutcomes refused [] = ⊤
HaveOutcomes refused (one ∷ more) = HasOutcome refused one × HaveOutcomes refused more

-- ---- rounds

-- A round: those that were taken into it, and the replies to the requests among them.
pub record RoundDone : Type 0 where
  pub taken : List Taken
  pub replies : List SeenReply

abbrev pub round_taken : RoundDone → List Taken
round_taken round = round.taken

abbrev pub round_replies : RoundDone → List SeenReply
round_replies round = round.replies

abbrev pub round_asks : Directory → RoundDone → List Ask
round_asks d round = flat_map (asks_of d) round.taken

-- All of the round come first, and those among them are sent their replies that are told at once.
-- Then each is sent the reply to its own request.
abbrev pub round_events : RoundDone → List ClientEvent
round_events round = flat_map events_of round.taken
    ++ sent_each (flat_map client_of round.taken) round.replies
