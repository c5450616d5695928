-- Reading a body: what the crate's clauses on JSON say of `json_of`.
use Rattle.std.proofs.Common.{◌≡◌, ℕ, List, Option, Some, None, Bool, true, false, cond, refl}
use Rattle.std.specs.Str.{is_utf8, IsUtf8}
use Rattle.std.proofs.lemmas.Str.{is_utf8-from_IsUtf8, IsUtf8-from_is_utf8}
use Rattle.serde_json.specs.Data.{Data}
use Rattle.serde_json.specs.Read.{read}
use Rattle.hq_bodies.specs.Reading.{json_of}

pub json_of_read : (bytes : List ℕ) (d : Data) → IsUtf8 bytes → read bytes ≡ Some d →
    json_of bytes ≡ Some d
json_of_read bytes d u e = rw (is_utf8-from_IsUtf8 bytes u) e

chosen : (b : Bool) (x : Option Data) → (b ≡ true → x ≡ None) → cond b x None ≡ None
chosen true x h = h refl
chosen false x h = refl

pub json_of_refused : (bytes : List ℕ) → (IsUtf8 bytes → read bytes ≡ None) → json_of bytes ≡ None
json_of_refused bytes h = chosen (is_utf8 bytes) _ (λ e. h (IsUtf8-from_is_utf8 bytes e))
