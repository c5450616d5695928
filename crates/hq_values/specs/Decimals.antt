-- Numbers that decimal digits write.
use Rattle.std.specs.Prelude.{ℕ, ◌+◌, ◌-◌, ◌*◌, nat_lt, nat_le, ◌&&◌, List, [], ◌∷◌, length}
use Rattle.std.specs.Prelude.{if◌then◌else◌, Option, Some, None}

-- the number that decimal digits go on to write behind those of another number
abbrev pub number_from : ℕ → List ℕ → Option ℕ
number_from n [] = Some n
number_from n (b ∷ bytes) = if nat_le 48 b && nat_le b 57 then
    number_from (n * 10 + (b - 48)) bytes else None

-- at least one decimal digit, and at most so many
unfoldable pub number_in : ℕ → List ℕ → Option ℕ
number_in most digits = if nat_lt 0 (length digits) && nat_le (length digits) most then
    number_from 0 digits else None
