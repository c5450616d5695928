-- A recipient that is pending, among the others of its message.
use Rattle.std.proofs.Common.{◌≡◌, ◌⊎◌, inl, inr, ℕ, List, Some}
use Rattle.std.specs.FinMap.{get}
use Rattle.hq_kept.specs.declared.message.Message.{Message}
use Rattle.hq_kept.specs.declared.message.Pending.{Pending}
use Rattle.hq_tables.specs.Tables.{State}
use Rattle.hq_laws.specs.Leaving.{IsPending, IsRecorded}
use Rattle.hq_laws.proofs.Among.{Among, contained}

abbrev pub IsThere : State → ℕ → List ℕ → Type 0
IsThere s serial address = (m : Message) × (get s.messages serial ≡ Some m)
    × ((p : Pending) × Among p m.pending × (p.address ≡ address))

pub pending_or_told : (s after : State) (at serial : ℕ) (address : List ℕ) →
    IsThere after serial address ⊎ IsRecorded s after at serial address →
    IsPending after serial address ⊎ IsRecorded s after at serial address
pending_or_told s after at serial address (inl it) =
    inl (it.0, it.1, (it.2.0, contained it.2.0 it.0.pending it.2.1, it.2.2))
pending_or_told s after at serial address (inr told) = inr told
