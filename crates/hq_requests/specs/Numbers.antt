-- The numbers of notices, as they stand in a path.
use Rattle.std.specs.Prelude.{ℕ, ◌==◌, if◌then◌else◌, List, [], ◌∷◌, Option, None}
use Rattle.hq_values.specs.Decimals as decimals

-- 1 to 13 decimal digits, of which the first is not `0`
unfoldable pub notice_number : List ℕ → Option ℕ
notice_number [] = None
notice_number (b ∷ bytes) = if b == 48 then None else decimals.number_in 13 (b ∷ bytes)
