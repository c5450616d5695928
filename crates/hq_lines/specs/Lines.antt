-- The lines of an input, and what it is to answer them in order.
use Rattle.std.specs.Prelude.{◌≡◌, ◌⊎◌, ℕ, nat_lt, nat_le, ◌==◌, Bool, if◌then◌else◌, List, [], ◌∷◌}
use Rattle.std.specs.Prelude.{◌++◌, length, map, take, Option}
use Rattle.std.specs.List.{filter, concat}
use Rattle.std.specs.Io.BufRead.{strip_last}
use Rattle.std.specs.Io.KnownBytes.{Consumes, Appends, IsAtEnd}
use Rattle.hq_lines.specs.Fields.{LineRequest, most_line_bytes, request_in}

-- a byte put before the first line, or before what follows the last LF where no LF is there
abbrev pub before_first : ℕ → List (List ℕ) × List ℕ → List (List ℕ) × List ℕ
before_first b ([], rest) = ([], b ∷ rest)
before_first b (line ∷ lines, rest) = ((b ∷ line) ∷ lines, rest)

-- the lines that an LF (10) ends, each without it, and what follows the last LF
abbrev pub parted : List ℕ → List (List ℕ) × List ℕ
parted [] = ([], [])
parted (b ∷ bytes) = if b == 10 then ([] ∷ (parted bytes).0, (parted bytes).1) else
    before_first b (parted bytes)

-- a line that an LF ended loses one CR (13) at its end, unless it is too long to be read with it
unfoldable pub without_return : List ℕ → List ℕ
without_return line = if nat_le (length line) most_line_bytes then strip_last 13 line else line

-- empty lines are passed over
abbrev pub is_filled : List ℕ → Bool
is_filled line = nat_lt 0 (length line)

-- the lines of the bytes that an LF ends
abbrev pub whole_lines : List ℕ → List (List ℕ)
whole_lines bytes = filter is_filled (map without_return (parted bytes).0)

-- The lines of an input, whose last may lack its LF.
abbrev pub lines_in : List ℕ → List (List ℕ)
lines_in input = whole_lines input ++ filter is_filled ((parted input).1 ∷ [])

-- what the lines ask for, in order
abbrev pub requests : List (List ℕ) → List (Option LineRequest)
requests lines = map request_in lines

-- ---- what is done with lines

-- What is seen of an input and an output: the bytes that are left to be read, and those that were
-- written, where they are known.
pub record Streams : Type 0 where
  pub input : Option (List ℕ)
  pub output : Option (List ℕ)

-- Some bytes were read, and of those the lines (all, or the whole ones) were answered in order,
-- each by its reply. `done` says what these requests and their replies did.
pub record AnsweredLines (done : List (Option LineRequest) → List (List ℕ) → Type 0)
    (lines : List ℕ → List (List ℕ)) (old new : Streams) : Type 0 where
  pub bytes : List ℕ
  pub replies : List (List ℕ)
  pub read : Consumes old.input new.input bytes
  pub written : Appends old.output new.output (concat replies)
  pub done_all : done (requests (lines bytes)) replies

-- the lines that are whole so far; or, where the input was read to its end, all its lines
abbrev pub AreRead : Option (List ℕ) → List ℕ → List (List ℕ) → Type 0
AreRead rest bytes lines = (whole_lines bytes ≡ lines) ⊎ (IsAtEnd rest × (lines_in bytes ≡ lines))

-- All replies but the last were written whole, and of the last a beginning: none of it, some or
-- all.
pub record BrokenOff (old new : Option (List ℕ)) (replies : List (List ℕ)) : Type 0 where
  pub whole : List (List ℕ)
  pub last : List ℕ
  pub size : ℕ
  pub all : replies ≡ whole ++ last ∷ []
  pub written : Appends old new (concat whole ++ take size last)

-- Some bytes were read, and the first of those lines were done, up to the one whose reply could not
-- be written: the replies to those before it were written whole, and of its own a beginning.
pub record Broken (done : List (Option LineRequest) → List (List ℕ) → Type 0) (old new : Streams) :
    Type 0 where
  pub bytes : List ℕ
  pub first : List (List ℕ)
  pub missed : List (List ℕ)
  pub replies : List (List ℕ)
  pub read : Consumes old.input new.input bytes
  pub written : BrokenOff old.output new.output replies
  pub lines : AreRead new.input bytes (first ++ missed)
  pub done_first : done (requests first) replies
