-- What was asked of a desk up to a stop, as a session.
use Rattle.std.specs.Prelude.{◌≡◌, ◌⊎◌, ℕ, List, [], ◌∷◌}
use Rattle.hq_tables.specs.Shelves.{StopLeavesTables}
use Rattle.hq_tables.specs.Sound.{Sound}
use Rattle.hq_tables.specs.Tables.{Tables}
use Rattle.hq_rules.specs.Desks.{DeskSight}
use Rattle.hq_requests.specs.declared.directory.Directory.{Directory}
use Rattle.hq_wire.specs.Exchanges.{Ask, TellsClosed, Unheard, next_call}
use Rattle.hq_wire.specs.Replies.{SeenReply}
use Rattle.hq_wire.specs.Runs.{deeds}
use Rattle.hq_across.specs.Histories.{Passed}

-- A desk as it was opened: its rows are those of its tables, which are sound, and a stop leaves
-- these. `sight` is what is seen of its shelf.
pub record IsJustOpened {D : Type 0} (sight : DeskSight D) (desk : D) : Type 0 where
  pub ours : sight.store.is_ours desk
  pub sound : Sound (sight.store.tables desk)
  pub rests : StopLeavesTables sight.store desk

-- The store was closed in this exchange, and 93 told: under way is its first call that the reply
-- does not tell of, and what was asked behind it did nothing.
pub record ClosedAt (d : Directory) (a : Ask) (r : SeenReply) (later : List Ask)
    (their_replies : List SeenReply) (under_way : List Unheard) : Type 0 where
  pub told : TellsClosed r
  pub next : under_way ≡ next_call d a.at a.called r
  pub last : deeds later their_replies ≡ []

-- The first of these exchanges that tells 93 did so; or none tells it, or none of them did anything
-- from there on, and then nothing is under way.
abbrev pub StoppedAt : Directory → List Ask → List SeenReply → List Unheard → Type 0
StoppedAt d (a ∷ asks) (r ∷ rs) under_way = ClosedAt d a r asks rs under_way
    ⊎ (((TellsClosed r → ⊥) × StoppedAt d asks rs under_way)
    ⊎ ((deeds (a ∷ asks) (r ∷ rs) ≡ []) × (under_way ≡ [])))
StoppedAt d _ _ under_way = under_way ≡ []

-- What was asked and replied to is a session from the tables t, behind which the next opening finds
-- the tables t'.
pub record IsSession (host : List ℕ) (d : Directory) (asks : List Ask) (rs : List SeenReply)
    (t t' : Tables) : Type 0 where
  pub under_way : List Unheard
  pub stopped_at : StoppedAt d asks rs under_way
  pub passed : Passed host
      (record { directory = d; asked = asks; replies = rs; under_way = under_way }) t t'
