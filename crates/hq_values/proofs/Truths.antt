-- Proofs that values carry.
use Rattle.std.proofs.Common.{◌≡◌, Bool, IsTrue}
use Rattle.std.proofs.Props.{props}

-- that a test holds has one proof
pub one_proof : (b : Bool) (h k : IsTrue b) → h ≡ k
one_proof b = Prim.hlevel props
