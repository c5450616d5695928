-- The written form of serials, which is the queue ID.
use Rattle.std.specs.Prelude.{ℕ, zero, suc, ◌+◌, ◌-◌, ◌*◌, ◌^◌, ◌/◌, ◌%◌, ◌==◌, nat_lt, nat_le}
use Rattle.std.specs.Prelude.{◌&&◌, Option, Some, None, option_and_then, List, [], ◌∷◌, ◌++◌}
use Rattle.std.specs.Prelude.{length, if◌then◌else◌}

-- 0 to 15 as an upper-case hexadecimal digit
abbrev pub hex_digit : ℕ → ℕ
hex_digit d = if nat_lt d 10 then 48 + d else 55 + d

-- the last so many hexadecimal digits of a number, the highest of them first
unfoldable pub hex_text : ℕ → ℕ → List ℕ
hex_text zero n = []
hex_text (suc places) n = hex_text places (n / 16) ++ hex_digit (n % 16) ∷ []

-- a serial is written as ten digits
abbrev pub serial_text : ℕ → List ℕ
serial_text n = hex_text 10 n

-- what an upper-case hexadecimal digit stands for
abbrev pub hex_value : ℕ → Option ℕ
hex_value b = if nat_le 48 b && nat_le b 57 then Some (b - 48) else
    (if nat_le 65 b && nat_le b 70 then Some (b - 55) else None)

-- the number that upper-case hexadecimal digits stand for, behind those that stand for n
abbrev pub hex_number : ℕ → List ℕ → Option ℕ
hex_number n [] = Some n
hex_number n (b ∷ bytes) = option_and_then (λ d. hex_number (16 * n + d) bytes) (hex_value b)

-- a serial is 1 to 2^40 - 1
abbrev pub serial_from : ℕ → Option ℕ
serial_from n = if nat_lt 0 n && nat_lt n (2 ^ 40) then Some n else None

-- the serial whose queue ID this is: ten digits
unfoldable pub serial_in : List ℕ → Option ℕ
serial_in text = if length text == 10 then option_and_then serial_from (hex_number 0 text) else None
