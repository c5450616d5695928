-- How far the loop over an input is: words of its own functions. No claim rests on them.
-- Inner: it serves proofs alone, and no promise rests on it.
use Rattle.std.specs.Prelude.{◌≡◌, ℕ, ◌+◌, List, [], ◌++◌, take, Option, Ok, Err}
use Rattle.std.specs.Io.KnownBytes.{Consumes}
use Rattle.hq_values.specs.declared.engine.EngineFault.{EngineFault}
use Rattle.hq_values.specs.declared.engine.EngineFault.TheVariants.{Write}
use Rattle.hq_lines.specs.Fields.{LineRequest, most_line_bytes}
use Rattle.hq_lines.specs.Lines.{parted, whole_lines, requests}
use Rattle.hq_lines.specs.Rounds.{DoesFirst}

-- what is kept of a line that is begun: enough to see that it is too long
unfoldable pub kept : List ℕ → List ℕ
kept line = take (most_line_bytes + 1) line

-- These bytes were read, the whole lines among them are taken, and the line behind those is kept.
pub record Progress {S : Type 0}
    (does : S → List (List (Option LineRequest)) → List (List (List ℕ)) → S → Type 0)
    (waiting : S → List (Option LineRequest)) (bytes : List ℕ)
    (write_old write_new : Option (List ℕ)) (old new : S) (begun : List ℕ) : Type 0 where
  pub taken : DoesFirst {E = EngineFault} does waiting (requests (whole_lines bytes)) old new
      write_old write_new (Ok tt)
  pub line : begun ≡ kept (parted bytes).1

-- The first whole lines of these bytes are taken, and the last replies are not told to be whole.
pub record Cut {S : Type 0}
    (does : S → List (List (Option LineRequest)) → List (List (List ℕ)) → S → Type 0)
    (waiting : S → List (Option LineRequest)) (bytes : List ℕ)
    (write_old write_new : Option (List ℕ)) (old new : S) : Type 0 where
  pub first : List (List ℕ)
  pub missed : List (List ℕ)
  pub lines : whole_lines bytes ≡ first ++ missed
  pub taken : DoesFirst {E = EngineFault} does waiting (requests first) old new write_old
      write_new (Err Write)

-- Some bytes were read, and so far the loop is; no line waits.
pub record Going {S : Type 0}
    (does : S → List (List (Option LineRequest)) → List (List (List ℕ)) → S → Type 0)
    (waiting : S → List (Option LineRequest))
    (read_old read_new write_old write_new : Option (List ℕ)) (old new : S) (begun : List ℕ) :
    Type 0 where
  pub bytes : List ℕ
  pub read : Consumes read_old read_new bytes
  pub progress : Progress does waiting bytes write_old write_new old new begun
  pub none_wait : waiting new ≡ []
