-- Rounds of a desk up to a stop, as a session.
use Rattle.std.specs.Prelude.{◌≡◌, ◌⊎◌, ℕ, List, [], ◌∷◌, ◌++◌}
use Rattle.hq_values.specs.declared.failure.Fault.{Fault}
use Rattle.hq_tables.specs.Tables.{Tables}
use Rattle.hq_requests.specs.declared.directory.Directory.{Directory}
use Rattle.hq_wire.specs.Exchanges.{Ask, Unheard}
use Rattle.hq_wire.specs.Replies.{SeenReply}
use Rattle.hq_wire.specs.Runs.{deeds}
use Rattle.hq_across.specs.Histories.{Passed}
use Rattle.hq_across.specs.Sessions.{StoppedAt}
use Rattle.hq_together.specs.Together.{ClosedInRound}

-- all of several lists, in order
abbrev pub all_in : {A : Type 0} → List (List A) → List A
all_in [] = []
all_in (xs ∷ xss) = xs ++ all_in xss

-- The calls under way are of one of these rounds, and those behind it did nothing; or none are.
abbrev pub StopsInRound : (Fault → Type 0) → List ℕ → Directory → Tables → Tables →
    List (List Ask) → List (List SeenReply) → List Unheard → Type 0
StopsInRound may host d last t' (asks ∷ asked) (rs ∷ replied) under_way =
    ((StoppedAt d asks rs under_way ⊎ ClosedInRound may host d asks rs last t' under_way)
    × (deeds (all_in asked) (all_in replied) ≡ []))
    ⊎ StopsInRound may host d last t' asked replied under_way
StopsInRound may host d last t' _ _ under_way = under_way ≡ []

-- What was asked and replied to in rounds is a session from the tables t, behind which the next
-- opening finds the tables t'.
pub record AreRoundsOfSession (may : Fault → Type 0) (host : List ℕ) (d : Directory)
    (asked : List (List Ask)) (replied : List (List SeenReply)) (t t' : Tables) : Type 0 where
  pub under_way : List Unheard
  pub passed : Passed host (record {
    directory = d;
    asked = all_in asked;
    replies = all_in replied;
    under_way = under_way;
  }) t t'
  pub stopped_in : StopsInRound may host d passed.last t' asked replied under_way
