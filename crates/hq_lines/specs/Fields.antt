-- The fields of a batch line: AT METHOD PATH KEY BODY, parted by one space each.
use Rattle.std.specs.Prelude.{ℕ, ◌+◌, ◌==◌, ◌&&◌, nat_lt, nat_le, if◌then◌else◌, List, []}
use Rattle.std.specs.Prelude.{length, take, drop, position, bytes_eq, codes, Option, Some, None}
use Rattle.std.specs.Prelude.{option_map}
use Rattle.std.specs.Str.{is_utf8}
use Rattle.hq_values.specs.Decimals.{number_in}
use Rattle.hq_values.specs.Options.{◌>>=◌}
use Rattle.hq_lines.specs.declared.fields.RequestLine.{RequestLine}
use Rattle.hq_values.specs.Moments.{last_moment}

-- What a batch line asks for: at a moment, a method and a path with a key or none, and the bytes of
-- a body.
pub record LineRequest : Type 0 where
  pub at : ℕ
  pub method : List ℕ
  pub path : List ℕ
  pub key : Option (List ℕ)
  pub body : List ℕ

-- the bytes before the place, and those behind it
abbrev pub cut_at : List ℕ → Option ℕ → List ℕ × Option (List ℕ)
cut_at bytes None = (bytes, None)
cut_at bytes (Some place) = (take place bytes, Some (drop (place + 1) bytes))

-- what stands before the first space, and what follows it
unfoldable pub cut : List ℕ → List ℕ × Option (List ℕ)
cut bytes = cut_at bytes (position (λ b. b == 32) bytes)

-- a moment is at most the last second of the year 2099
abbrev pub in_range : ℕ → Option ℕ
in_range n = if nat_le n last_moment then Some n else None

-- 1 to 10 decimal digits of a moment
unfoldable pub moment_in : List ℕ → Option ℕ
moment_in field = number_in 10 field >>= in_range

-- a field is UTF-8 and not empty
abbrev pub word_in : List ℕ → Option (List ℕ)
word_in field = if nat_lt 0 (length field) && is_utf8 field then Some field else None

-- a key that is `-` is none
abbrev pub key_word : List ℕ → Option (List ℕ)
key_word field = if bytes_eq field (codes "-") then None else Some field

-- a body may be missing with its space
abbrev pub body_in : Option (List ℕ) → List ℕ
body_in None = []
body_in (Some bytes) = bytes

-- four fields and the rest
unfoldable pub line_fields : List ℕ → Option LineRequest
line_fields line = do
  at ← moment_in (cut line).0
  after_at ← (cut line).1
  method ← word_in (cut after_at).0
  after_method ← (cut after_at).1
  path ← word_in (cut after_method).0
  after_path ← (cut after_method).1
  key ← word_in (cut after_path).0
  Some (record {
    at = at;
    method = method;
    path = path;
    key = key_word key;
    body = body_in (cut after_path).1;
  })

-- the most bytes of a line
abbrev pub most_line_bytes : ℕ
most_line_bytes = 300000

-- What a line asks for, or nothing where it is too long or cannot be read.
unfoldable pub request_in : List ℕ → Option LineRequest
request_in line = if nat_le (length line) most_line_bytes then line_fields line else None

-- a line as the code holds it, as a request
abbrev pub line_request : RequestLine → LineRequest
line_request line = record {
  at = line.at;
  method = line.method.now;
  path = line.path.now;
  key = option_map (λ k. k.now) line.key;
  body = line.body.now;
}
