-- What is no text is no key, as an empty text is none.
use Rattle.std.proofs.Common.{◌≡◌, ◌<◌, ℕ, Bool, true, false, List, [], refl, arith, rules}
use Rattle.std.proofs.lemmas.Bool.Decides.{nat_tests}
use Rattle.std.proofs.lemmas.List.Elements.{All-weaker}
use Rattle.std.proofs.lemmas.List.Sums.{AllPass-from_list_all}
use Rattle.std.proofs.lemmas.Str.{IsUtf8-from_ascii}
use Rattle.std.proofs.lemmas.Str.Ascii.{IsAscii-from_all}
use Rattle.std.specs.List.{list_all}
use Rattle.std.specs.Str.{IsUtf8}
use Rattle.hq_values.specs.Words.{is_key, is_key_byte}
use Rattle.hq_settings.specs.Settings.{relay_in}

key_byte_ascii : (b : ℕ) → is_key_byte b ≡ true → b < 128
key_byte_ascii b e = grind (arith, nat_tests)

key_utf8 : (text : List ℕ) → is_key text ≡ true → IsUtf8 text
key_utf8 text key =
    let all : list_all is_key_byte text ≡ true = search rules in
    IsUtf8-from_ascii text (IsAscii-from_all text
    (All-weaker (λ b. is_key_byte b ≡ true) (λ b. b < 128) key_byte_ascii text
    (AllPass-from_list_all is_key_byte text all)))

refused : (t : Bool) → (t ≡ true → ⊥) → t ≡ false
refused true h = absurd (h refl)
refused false h = refl

no_text_no_key : (text : List ℕ) → ¬ (IsUtf8 text) → is_key text ≡ false
no_text_no_key text h = refused (is_key text) (λ key. h (key_utf8 text key))

-- a relay's key that is no text is refused as an empty one
pub as_empty : (host text : List ℕ) → ¬ (IsUtf8 text) → relay_in host [] ≡ relay_in host text
as_empty host text h = rw (no_text_no_key text h) refl
