-- The reads that are made of a reader, and what the last of them gave.
use Rattle.std.specs.Prelude.{◌≡◌, ◌≤◌, ◌<◌, ◌+◌, ◌⊎◌, ℕ, List, [], ◌++◌, length, take, Option}
use Rattle.std.specs.Prelude.{Result, Ok, Err, true, false}
use Rattle.std.specs.Io.KnownBytes.{Consumes, IsAtEnd}
use Rattle.hq_values.specs.declared.engine.EngineFault.{EngineFault}
use Rattle.hq_values.specs.declared.engine.EngineFault.TheVariants.{Read, TooManyReads}
use Rattle.hq_http.specs.Requests.{IsOpen, most_read_bytes}
use Rattle.hq_http.specs.Stages.{LeavesOpen}
use Rattle.hq_http.specs.declared.reads.Reads.{Reads}
use Rattle.hq_http.specs.declared.reads.ReadResult.{ReadResult}
use Rattle.hq_http.specs.declared.reads.ReadResult.TheVariants.{Bytes, Interruption, End}

-- the bytes that the last read gave
abbrev pub last_given : {R : Type 0} → Reads R → List ℕ
last_given reads = take reads.given reads.room

-- One read is made, where none before failed or told the end. One less may be made, and what it
-- gave, 4,096 bytes at most, is gone from the reader.
pub record MakesOneRead {R : Type 0} (remaining : R → Option (List ℕ)) (old new : Reads R) : Type 0
  where
    pub before : old.over ≡ false
    pub counted : old.left ≡ new.left + 1
    pub gave : Consumes (remaining old.reader.now) (remaining new.reader.now) (last_given new)
    pub near : length (last_given new) ≤ most_read_bytes

-- What a read tells: that some bytes came; that it was interrupted, with no byte; that the end
-- came; that it failed, or is not made behind one that did; or that none is left, and none is made.
abbrev pub ReadIs : {R : Type 0} → (R → Option (List ℕ)) → Reads R → Reads R →
    Result ReadResult EngineFault → Type 0
ReadIs remaining old new (Ok Bytes) = MakesOneRead remaining old new × (new.over ≡ false)
    × (0 < length (last_given new))
ReadIs remaining old new (Ok Interruption) = MakesOneRead remaining old new × (new.over ≡ false)
    × (last_given new ≡ [])
ReadIs remaining old new (Ok End) = MakesOneRead remaining old new × (new.failed ≡ old.failed)
    × (last_given new ≡ []) × IsAtEnd (remaining new.reader.now) × (new.over ≡ true)
ReadIs remaining old new (Err Read) =
    (MakesOneRead remaining old new × (new.failed ≡ true) × (last_given new ≡ []))
    ⊎ ((old.over ≡ true) × (new ≡ old))
ReadIs remaining old new (Err TooManyReads) = (old.left ≡ 0) × (new ≡ old)
ReadIs remaining old new (Err _) = ⊥

-- Some reads were made. What the last one gave is all that came behind what the others gave, and
-- that left more to be read.
pub record StopsAtLast {R : Type 0} (remaining : R → Option (List ℕ)) (old new : Reads R) : Type 0
  where
    pub front : List ℕ
    pub read : Consumes (remaining old.reader.now) (remaining new.reader.now)
        (front ++ last_given new)
    pub went_on : IsOpen front
    pub near : length (last_given new) ≤ most_read_bytes
    pub some : new.left < old.left

-- A fault of reading leaves an open request. `Read` is told only where a read failed, or where none
-- could be made from the first on, and `TooManyReads` only where none is left.
pub record FailsOpen {R : Type 0} (remaining : R → Option (List ℕ)) (old new : Reads R)
    (why : EngineFault) : Type 0 where
  pub open_yet : LeavesOpen (remaining old.reader.now) (remaining new.reader.now) why
  pub failed : why ≡ Read → (new.failed ≡ true) ⊎ (old.over ≡ true)
  pub none_left : why ≡ TooManyReads → new.left ≡ 0
