-- What the bytes of a connection ask for.
use Rattle.std.specs.Prelude.{◌≡◌, ◌≢◌, ◌≤◌, ◌<◌, ◌⊎◌, ◌++◌, ℕ, List, [], length, take, map, nat_lt}
use Rattle.std.specs.Prelude.{nat_le, if◌then◌else◌, Option, Some, IfSome}
use Rattle.std.specs.Io.KnownBytes.{Consumes}
use Rattle.httparse.specs.Grammar.{RequestHead, print_request, ReadsRequest, HasNoRequest}
use Rattle.httparse.specs.Spans.{name_and_value}
use Rattle.hq_values.specs.declared.failure.Refusal.{Refusal}
use Rattle.hq_values.specs.declared.failure.Refusal.TheVariants.{BadRequest, BodyTooLong}
use Rattle.hq_http.specs.Ends.{HasEnd}
use Rattle.hq_http.specs.Fields.{Framing, framing}
use Rattle.hq_values.specs.Limits.{most_bytes}

-- a method and a path with a key or none, and the bytes of a body
pub record Request : Type 0 where
  pub method : List ℕ
  pub path : List ℕ
  pub key : Option (List ℕ)
  pub body : List ℕ

-- nothing, a refusal, or a request
pub data Wanted : Type 0 where
  nothing : Wanted
  refused : Refusal → Wanted
  request : Request → Wanted

-- the most bytes of a head, and of what one read gives
abbrev pub most_head_bytes : ℕ
most_head_bytes = 16384

abbrev pub most_read_bytes : ℕ
most_read_bytes = 4096

-- The bytes are a head within the limits, whose fields say this of the body and the key, and then
-- the rest.
pub record ReadsHead (bytes : List ℕ) (h : RequestHead) (f : Framing) (rest : List ℕ) : Type 0 where
  pub head : ReadsRequest bytes h rest
  pub short : length (print_request h) ≤ most_head_bytes
  pub few : length h.fields ≤ 64
  pub framed : framing (map name_and_value h.fields) ≡ Some f

-- What a head asks for with what follows it: a body of its length, and bytes after the body are not
-- looked at.
unfoldable pub asked_by : RequestHead → Framing → List ℕ → Wanted
asked_by h f rest =
    if nat_lt most_bytes f.length then refused BodyTooLong
    else (if nat_le f.length (length rest)
    then request (record {
      method = h.method;
      path = h.target;
      key = f.key;
      body = take f.length rest;
    })
    else refused BadRequest)

-- the bytes begin with no such head
abbrev pub HasNoHead : List ℕ → Type 0
HasNoHead bytes = (h : RequestHead) (f : Framing) (rest : List ℕ) → ReadsHead bytes h f rest → ⊥

-- What bytes ask for: no bytes ask for nothing, a head asks for what it says, and all others are
-- refused.
abbrev pub RequestOf : List ℕ → Wanted → Type 0
RequestOf bytes asked =
    ((bytes ≡ []) × (asked ≡ nothing))
    ⊎ (((h : RequestHead) × (f : Framing) × (rest : List ℕ) × ReadsHead bytes h f rest
    × (asked ≡ asked_by h f rest))
    ⊎ ((bytes ≢ []) × HasNoHead bytes × (asked ≡ refused BadRequest)))

-- However the bytes go on, they ask for this.
abbrev pub Determines : List ℕ → Wanted → Type 0
Determines bytes asked = (more : List ℕ) → RequestOf (bytes ++ more) asked

-- More has to be read: in fewer than 16,384 bytes no head has ended, be it a good one or not; or
-- the body of one is not whole.
abbrev pub IsOpen : List ℕ → Type 0
IsOpen bytes =
    (HasNoRequest bytes × (HasEnd bytes → ⊥) × (length bytes < most_head_bytes))
    ⊎ ((h : RequestHead) × (f : Framing) × (rest : List ℕ) × ReadsHead bytes h f rest
    × (f.length ≤ most_bytes) × (length rest < f.length))

-- Some bytes were read, and what they ask for is what the whole input asks for. Up to the last
-- read, of 4,096 bytes at most, more had to be read.
pub record Received (read_old read_new : Option (List ℕ)) (asked : Wanted) : Type 0 where
  pub front : List ℕ
  pub last : List ℕ
  pub read : Consumes read_old read_new (front ++ last)
  pub went_on : IsOpen front
  pub near : length last ≤ most_read_bytes
  pub asks : RequestOf (front ++ last) asked
  pub whole : IfSome read_old (λ input. RequestOf input asked)

-- There was no room for what was read. Up to the last read, which gave some bytes and 4,096 at
-- most, more had to be read.
pub record HasNoRoom (read_old read_new : Option (List ℕ)) : Type 0 where
  pub front : List ℕ
  pub last : List ℕ
  pub read : Consumes read_old read_new (front ++ last)
  pub went_on : IsOpen front
  pub near : length last ≤ most_read_bytes
  pub some : last ≢ []
