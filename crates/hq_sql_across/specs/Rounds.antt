-- Sessions of a desk that does its exchanges in rounds, with a stop behind each.
use Rattle.std.specs.Prelude.{◌≡◌, ◌⊎◌, ⊤, ℕ, ◌+◌, ◌≤◌, List, [], ◌∷◌, ◌++◌, map, length, take}
use Rattle.std.specs.Prelude.{drop, flat_map, Option, None, Some}
use Rattle.std.specs.List.{AllZip}
use Rattle.sqlite.specs.Tree.{Trees}
use Rattle.hq_tables.specs.Tables.{Tables}
use Rattle.hq_requests.specs.declared.directory.Directory.{Directory}
use Rattle.hq_wire.specs.Exchanges.{Ask, Deed, Tells, Unheard, calls_asked, deeds_of}
use Rattle.hq_wire.specs.Replies.{SeenReply}
use Rattle.hq_wire.specs.Runs.{deeds}
use Rattle.hq_across.specs.Histories.{Passed, Session}
use Rattle.hq_across.specs.Sessions.{StoppedAt}
use Rattle.hq_together.specs.Sessions.{all_in}
use Rattle.hq_serve.specs.Coming.{HaveOutcomes, RoundDone, Serving, round_asks, round_events}
use Rattle.hq_serve.specs.Coming.{round_replies, round_taken}
use Rattle.hq_serve.specs.Rounds.{IsOver}
use Rattle.hq_serve.specs.declared.coming.ServiceEnd.{ServiceEnd}
use Rattle.hq_sql_across.specs.Stopped.{KeepsDesk, MayKeep}

-- A session in rounds: the directory of its start, the rounds whose replies left, and the calls
-- under way as it stopped.
pub record RoundsSession : Type 0 where
  pub directory : Directory
  pub asked : List (List Ask)
  pub replied : List (List SeenReply)
  pub under_way : List Unheard

-- the same session, exchange by exchange
abbrev pub in_turn : RoundsSession → Session
in_turn s = record {
  directory = s.directory;
  asked = all_in s.asked;
  replies = all_in s.replied;
  under_way = s.under_way;
}

-- what the reply to an exchange tells of, the first of these replies; nothing where there is none
abbrev pub first_told : Ask → List SeenReply → List Deed
first_told a [] = []
first_told a (r ∷ rs) = deeds_of a.at a.called r

-- These are calls of these exchanges, in order: of each the first of those that its reply does not
-- tell of.
abbrev pub AreUntold : Directory → List Ask → List SeenReply → List Unheard → Type 0
AreUntold d [] rs calls = calls ≡ []
AreUntold d (a ∷ asks) rs calls = (count : ℕ) × (more : List Unheard)
    × (calls ≡ take count (drop (length (first_told a rs)) (calls_asked d a.at a.called)) ++ more)
    × AreUntold d asks (drop 1 rs) more

-- These calls were under way as a round stopped: the first that a reply of 93 does not tell of; or
-- no reply tells of a deed, and each exchange may have calls under way.
abbrev pub AreCut : Directory → List Ask → List SeenReply → List Unheard → Type 0
AreCut d asks rs calls = StoppedAt d asks rs calls
    ⊎ ((deeds asks rs ≡ []) × AreUntold d asks rs calls)

-- these are such calls of one of these rounds, behind which nothing was done, or there are none
abbrev pub AreOfOneRound : Directory → List (List Ask) → List (List SeenReply) → List Unheard →
    Type 0
AreOfOneRound d (asks ∷ asked) (rs ∷ replied) calls =
    (AreCut d asks rs calls × (deeds (all_in asked) (all_in replied) ≡ []))
    ⊎ AreOfOneRound d asked replied calls
AreOfOneRound d _ _ calls = calls ≡ []

-- The replies to these rounds left, and then a stop came in one round of which no reply left,
-- behind which the next opening finds the tables t': some calls of that round were done, and
-- nothing else.
pub record IsCutIn (host : List ℕ) (d : Directory) (asked : List (List Ask))
    (replied : List (List SeenReply)) (asks : List Ask) (t t' : Tables) : Type 0 where
  pub under_way : List Unheard
  pub calls : AreUntold d asks [] under_way
  pub passed : Passed host (record {
    directory = d;
    asked = all_in asked;
    replies = all_in replied;
    under_way = under_way;
  }) t t'

-- ---- a server of a store that stops

-- The session is that of a server: from one state of all clients to another its rounds, and nothing
-- else, came from them and were sent to them.
pub record IsServedInRounds {K : Type 0} (does : Serving K) (clients_old clients_new : K)
    (d : Directory) (s : RoundsSession) : Type 0 where
  pub by : s.directory ≡ d
  pub rounds : List RoundDone
  -- what came of each that came
  pub are_taken : HaveOutcomes ⊤ (flat_map round_taken rounds)
  pub asked : s.asked ≡ map (round_asks d) rounds
  pub replied : s.replied ≡ map round_replies rounds
  -- one reply to each request, and what it tells
  pub tells : AllZip (AllZip (Tells (λ fault. ⊤) d)) s.asked s.replied
  pub under_way : AreOfOneRound d s.asked s.replied s.under_way
  pub clients : does clients_old (flat_map round_events rounds) clients_new

-- From one stop up to the next: it is a desk's still, and whatever an opening may find then came by
-- such a session from what an opening may have found before.
abbrev pub PassesRounds : List ℕ → (RoundsSession → Type 0) → (Trees → Type 0) → (Trees → Type 0) →
    Type 0
PassesRounds host is before after = KeepsDesk before → KeepsDesk after
    × ((t' : Tables) → MayKeep after t' → (t : Tables) × MayKeep before t
    × (s : RoundsSession) × is s × Passed host (in_turn s) t t')

-- How serving ended, whatever became of the store: nobody was served where there is no end; or
-- these came and were sent this, and it is over as a server's rounds are.
abbrev pub EndsServing : {K : Type 0} → Serving K → ℕ → ℕ → Option ServiceEnd → K → K → Type 0
EndsServing does coming left None old new = new ≡ old
EndsServing does coming left (Some why) old new = (rounds : List RoundDone)
    × HaveOutcomes ⊤ (flat_map round_taken rounds)
    × does old (flat_map round_events rounds) new
    × (came : ℕ) × (came + left ≡ coming) × (length (flat_map round_taken rounds) ≤ came)
    × IsOver why came left (length (flat_map round_taken rounds))
