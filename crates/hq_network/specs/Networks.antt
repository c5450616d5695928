-- What is done by listening.
use Rattle.std.specs.Prelude.{ℕ, List, Option}
use Rattle.hq_network.specs.declared.places.Place.{Place}
use Rattle.hq_sockets.specs.declared.deadlines.Limits.{Limits}

-- At the place that a text names, and within these limits, these clients came, and that is the
-- place that was bound; or none did since there is no such place. And it ended with these clients,
-- as they were then.
pub data NetworkEvent (K : Type 0) : Type 0 where
  listened : List ℕ → Limits → Option (K × Place) → NetworkEvent K
  ended : K → NetworkEvent K

-- from one state to another this was done, in this order
abbrev pub Networking : Type 0 → Type 0 → Type 1
Networking N K = N → List (NetworkEvent K) → N → Type 0
