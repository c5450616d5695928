-- What is told of the place at which a server listens.
use Rattle.std.specs.Prelude.{◌≡◌, ⊤, ℕ, List, [], ◌∷◌, Option, Some, None, Result, Ok, Err}
use Rattle.std.specs.Io.KnownBytes.{Appends}
use Rattle.hq_values.specs.Refusals.{no_memory}
use Rattle.hq_values.specs.declared.failure.Fail.TheVariants.{Fault as AsFault}
use Rattle.hq_settings.specs.declared.trouble.Trouble.{Trouble}
use Rattle.hq_settings.specs.declared.trouble.Trouble.TheVariants.{Output, Network, Desk}
use Rattle.hq_lines.specs.Written.{AppendsPart}
use Rattle.hq_network.specs.Networks.{Networking, ended, listened}
use Rattle.hq_network.specs.Places.{IsPlaceOf, place_line}
use Rattle.hq_sockets.specs.declared.deadlines.Limits.{Limits}
use Rattle.hq_network.specs.declared.places.Place.{Place}
use Rattle.hq_words.specs.declared.options.Serve.{Serve}

-- how long a client may take, as the words have it
abbrev pub limits_of : Serve → Limits
limits_of given = record { idle = given.idle_timeout; request = given.request_timeout }

-- A place is told: its line is written.
abbrev pub IsPlaceTold : Place → Option (List ℕ) → Option (List ℕ) → Type 0
IsPlaceTold place old new = Appends old new (place_line place)

-- why a place is not told: the output fails, and a beginning of its line is written; or memory ran
-- out, and nothing is
abbrev pub IsUntold : Place → Option (List ℕ) → Option (List ℕ) → Type 0 → Trouble → Type 0
IsUntold place old new unwritten Output = AppendsPart old new (place_line place)
IsUntold place old new unwritten (Desk (AsFault fault)) = unwritten × (fault ≡ no_memory)
IsUntold place old new unwritten _ = ⊥

-- a place is told, or is not
abbrev pub TellsPlace : Place → Option (List ℕ) → Option (List ℕ) → Type 0 → Result ⊤ Trouble →
    Type 0
TellsPlace place old new unwritten (Ok _) = IsPlaceTold place old new
TellsPlace place old new unwritten (Err trouble) = IsUntold place old new unwritten trouble

-- So many clients are to come to a place that the text names, within these limits, of which nobody
-- came yet, and its line is written. Nothing else is done at the network.
pub record IsListening {N K : Type 0} (does : Networking N K) (begins : K → Type 0) (left : K → ℕ)
    (text : List ℕ) (count : ℕ) (limits : Limits) (net_old net_new : N)
    (old new : Option (List ℕ)) (clients : K) : Type 0 where
  pub place : Place
  pub named : IsPlaceOf text place
  pub listened_so : does net_old (listened text limits (Some (clients, place)) ∷ []) net_new
  pub begun : begins clients
  pub counted : left clients ≡ count
  pub told : IsPlaceTold place old new

-- Why no clients are served: the place is none or cannot be bound, and nothing is written; or it is
-- not told, and its clients are ended as they came.
abbrev pub IsUnbound : {N K : Type 0} → Networking N K → List ℕ → Limits → N → N → Type 0 →
    Option (List ℕ) → Option (List ℕ) → Trouble → Type 0
IsUnbound does text limits net_old net_new unwritten old new Network = unwritten
    × does net_old (listened text limits None ∷ []) net_new
IsUnbound {K = K} does text limits net_old net_new unwritten old new trouble = (clients : K)
    × (place : Place) × IsPlaceOf text place × IsUntold place old new unwritten trouble
    × does net_old (listened text limits (Some (clients, place)) ∷ ended clients ∷ []) net_new

-- Either of that is so.
abbrev pub ListenEnds : {N K : Type 0} → Networking N K → (K → Type 0) → (K → ℕ) → List ℕ → ℕ →
    Limits → N → N → Type 0 → Option (List ℕ) → Option (List ℕ) → Result K Trouble → Type 0
ListenEnds does begins left text count limits net_old net_new unwritten old new (Ok clients) =
    IsListening does begins left text count limits net_old net_new old new clients
ListenEnds does begins left text count limits net_old net_new unwritten old new (Err trouble) =
    IsUnbound does text limits net_old net_new unwritten old new trouble
