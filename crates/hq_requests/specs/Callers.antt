-- Of whom what is asked is, by the steps that found it.
-- Inner: it serves proofs alone, and no promise rests on it.
use Rattle.std.specs.Prelude.{ℕ, ◌≡◌, List, Option, Ok}
use Rattle.hq_requests.specs.Directories.{held_on, relay_alone, whose_seen}
use Rattle.hq_requests.specs.declared.directory.Directory.{Directory}
use Rattle.hq_import.specs.declared.keys.Right.{Right}
use Rattle.hq_requests.specs.declared.request.Asking.{Asking}
use Rattle.hq_requests.specs.declared.request.Asking.TheVariants as asking
use Rattle.hq_requests.specs.declared.table.Role.{Role}

-- it is a call of whom the key serves
abbrev pub IsHeldBy : Directory → Role → Option (List ℕ) → List ℕ → Asking → Type 0
IsHeldBy d role key segment (asking.CallOf caller call) = (right : Right)
    × (held_on d role key segment ≡ Ok (record { whose = whose_seen caller; right = right }))
IsHeldBy d role key segment (asking.CallOfAll span each) = ⊥

-- it is a call of all, and the relay's key is shown
abbrev pub IsOfAll : Directory → Option (List ℕ) → Asking → Type 0
IsOfAll d key (asking.CallOf caller call) = ⊥
IsOfAll d key (asking.CallOfAll span each) = relay_alone d key ≡ Ok tt
