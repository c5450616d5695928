-- How a batch ends, and what it leaves.
use Rattle.std.specs.Prelude.{⊤, ℕ, List, Option, Result, Ok, Err}
use Rattle.std.specs.Io.KnownBytes.{IsAtEnd}
use Rattle.hq_lines.specs.Fields.{LineRequest}
use Rattle.hq_lines.specs.Lines.{whole_lines, lines_in, Streams, AnsweredLines, Broken}
use Rattle.hq_lines.specs.Rounds.{AnsweredInRounds, BrokenInRound}
use Rattle.hq_values.specs.declared.engine.EngineFault.{EngineFault}
use Rattle.hq_values.specs.declared.engine.EngineFault.TheVariants.{Read, Write, TooManyReads}
use Rattle.hq_values.specs.declared.engine.EngineFault.TheVariants.{WantOfMemory}

-- Where it ends well, the input was read to its end and all its lines are answered; after a failed
-- read or the last that is allowed, the whole lines among the bytes read are; after a failed write
-- the lines up to the one whose reply could not be written are done, and no other; and where the
-- room for a line was refused, nothing was touched. `done` says what requests and their replies
-- did.
abbrev pub InputEnds : (List (Option LineRequest) → List (List ℕ) → Type 0) → Type 0 → Streams →
    Streams → Result ⊤ EngineFault → Type 0
InputEnds done untouched old new (Ok _) = AnsweredLines done lines_in old new × IsAtEnd new.input
InputEnds done untouched old new (Err Read) = AnsweredLines done whole_lines old new
InputEnds done untouched old new (Err TooManyReads) = AnsweredLines done whole_lines old new
InputEnds done untouched old new (Err Write) = Broken done old new
InputEnds done untouched old new (Err WantOfMemory) = untouched

-- The same in rounds: after a failed write the lines are done up to those of the round whose
-- replies could not be written, and no other.
abbrev pub RoundsEnd : (List (List (Option LineRequest)) → List (List (List ℕ)) → Type 0) → Type 0 →
    Streams → Streams → Result ⊤ EngineFault → Type 0
RoundsEnd done untouched old new (Ok _) = AnsweredInRounds done lines_in old new
    × IsAtEnd new.input
RoundsEnd done untouched old new (Err Read) = AnsweredInRounds done whole_lines old new
RoundsEnd done untouched old new (Err TooManyReads) = AnsweredInRounds done whole_lines old new
RoundsEnd done untouched old new (Err Write) = BrokenInRound done old new
RoundsEnd done untouched old new (Err WantOfMemory) = untouched
