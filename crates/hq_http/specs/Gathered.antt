-- A request whose bytes come in chunks.
use Rattle.std.specs.Prelude.{ℕ, List}
use Rattle.hq_http.specs.Requests.{Determines, refused, request}
use Rattle.hq_http.specs.Stages.{StageIs, request_seen}
use Rattle.hq_http.specs.declared.gathering.Gathering.{Gathering}
use Rattle.hq_http.specs.declared.gathering.Gathered.{Gathered}
use Rattle.hq_http.specs.declared.gathering.Gathered.TheVariants.{Open, Done}
use Rattle.hq_http.specs.declared.reading.Input.TheVariants as input

-- these bytes came, and more have to
abbrev pub IsGathered : List ℕ → Gathering → Type 0
IsGathered bytes g = StageIs bytes g.stage

-- what they make: more have to come; or it is settled, however they go on; or there was no room for
-- them, since memory refused some
abbrev pub Gathers : Type 0 → List ℕ → Gathered → Type 0
Gathers no_memory bytes (Open g) = IsGathered bytes g
Gathers no_memory bytes (Done input.Nothing) = ⊥
Gathers no_memory bytes (Done (input.Refused why)) = Determines bytes (refused why)
Gathers no_memory bytes (Done (input.Request m)) = Determines bytes (request (request_seen m))
Gathers no_memory bytes (Done input.NoRoom) = no_memory
