-- Words of the crate's own functions, on the reads of one request. No claim rests on them.
-- Inner: it serves proofs alone, and no promise rests on it.
use Rattle.std.specs.Prelude.{◌≡◌, ◌≤◌, ◌<◌, ℕ, List, Option, length}
use Rattle.hq_http.specs.Reads.{StopsAtLast, last_given}
use Rattle.hq_http.specs.Stages.{IsAtStage, InputIs}
use Rattle.hq_http.specs.declared.reading.Input.TheVariants.{NoRoom}
use Rattle.hq_http.specs.declared.reading.Turn.{Turn}
use Rattle.hq_http.specs.declared.reading.Turn.TheVariants.{Again, Done}
use Rattle.hq_http.specs.declared.reads.Reads.{Reads}
use Rattle.hq_http.specs.declared.stages.Stage.{Stage}

-- some reads may have been made since the first state, none of which failed or told the end, and so
-- far the request is
abbrev pub IsUnderWay : {R : Type 0} → (R → Option (List ℕ)) → Reads R → Reads R → Stage → Type 0
IsUnderWay remaining first now stage =
    IsAtStage (remaining first.reader.now) (remaining now.reader.now) stage
    × (now.left ≤ first.left) × (now.over ≡ first.over)

-- one read more, and what it makes of the request
abbrev pub MoreIs : {R : Type 0} → Type 0 → (R → Option (List ℕ)) → Reads R → Reads R → Turn →
    Type 0
MoreIs no_memory remaining first new (Again stage) = IsUnderWay remaining first new stage
MoreIs no_memory remaining first new (Done told) =
    InputIs no_memory (remaining first.reader.now) (remaining new.reader.now) told
    × StopsAtLast remaining first new
    × (told ≡ NoRoom → 0 < length (last_given new))
