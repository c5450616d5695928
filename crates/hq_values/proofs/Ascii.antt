-- Queue IDs are ASCII.
use Rattle.std.proofs.Common.{ℕ, zero, suc, ◌/◌, ◌%◌, ◌<◌, [], arith}
use Rattle.std.specs.Str.{IsAscii, IsUtf8}
use Rattle.std.proofs.lemmas.Bool.Decides.{nat_tests}
use Rattle.std.proofs.lemmas.Str.{IsAscii-append, IsUtf8-from_ascii}
use Rattle.std.proofs.lemmas.Str.Ascii.{IsAscii-cons, IsAscii-from_all}
use Rattle.std.proofs.lemmas.List.Elements.{All-from_get_or}
use Rattle.hq_values.specs.Serials.{hex_digit, hex_text, serial_text}

digit_small : (d : ℕ) → d < 16 → hex_digit d < 128
digit_small d h = grind (arith, nat_tests)

none_ascii : IsAscii []
none_ascii = IsAscii-from_all [] (All-from_get_or (λ b. b < 128) [] 0
    (λ i below. absurd (omega arith)))

hex_ascii : (k n : ℕ) → IsAscii (hex_text k n)
unfolding hex_text
hex_ascii zero n = none_ascii
hex_ascii (suc k) n = IsAscii-append (hex_text k (n / 16)) _ (hex_ascii k (n / 16))
    (IsAscii-cons (hex_digit (n % 16)) [] (digit_small (n % 16) (omega arith)) none_ascii)

pub serial_utf8 : (serial : ℕ) → IsUtf8 (serial_text serial)
serial_utf8 serial = IsUtf8-from_ascii (serial_text serial) (hex_ascii 10 serial)
