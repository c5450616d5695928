-- From read to read.
use Rattle.std.proofs.Common.{◌≡◌, ◌<◌, ℕ, List, [], Option, Err, length, arith, ◌∙◌}
use Rattle.std.proofs.Common.{subst, sym, inl, inr, refl, append-nil, false}
use Rattle.std.specs.Io.KnownBytes.{Consumes}
use Rattle.std.proofs.KnownBytes.{Consumes-trans}
use Rattle.hq_values.specs.declared.engine.EngineFault.{EngineFault}
use Rattle.hq_values.specs.declared.engine.EngineFault.TheVariants.{Read, Write, TooManyReads}
use Rattle.hq_values.specs.declared.engine.EngineFault.TheVariants.{WantOfMemory}
use Rattle.hq_http.specs.declared.reading.Turn.{Turn}
use Rattle.hq_http.specs.declared.reading.Turn.TheVariants.{Again, Done}
use Rattle.hq_http.specs.declared.reads.Reads.{Reads}
use Rattle.hq_http.specs.declared.stages.Stage.{Stage}
use Rattle.hq_http.specs.Reads.{last_given, MakesOneRead, ReadIs, StopsAtLast, FailsOpen}
use Rattle.hq_http.specs.Stages.{IsAtStage, TurnIs, StaysOpen}
use Rattle.hq_http.specs.Turns.{IsUnderWay, MoreIs}
use Rattle.hq_http.proofs.StageLemmas.{stage_open, left_open}

module _ {R : Type 0} (remaining : R → Option (List ℕ)) (first old new : Reads R) where
  -- a read behind an open stage may be the last one
  pub stops : (s : Stage) → IsUnderWay remaining first old s → MakesOneRead remaining old new →
      StopsAtLast remaining first new
  stops s g read = record {
    front = g.0.0;
    read = Consumes-trans _ _ _ g.0.0 (last_given new) g.0.1 read.gave;
    went_on = stage_open g.0.0 s g.0.2;
    near = read.near;
    some = omega (arith, read.counted, g.1);
  }

  -- what one read more makes of the request
  pub more_of : (no_memory : Type 0) (s : Stage) (turn : Turn) → IsUnderWay remaining first old s
      → MakesOneRead remaining old new → new.over ≡ false → 0 < length (last_given new)
      → TurnIs no_memory (remaining first.reader.now) (remaining new.reader.now) turn
      → MoreIs no_memory remaining first new turn
  more_of no_memory s (Again stage) g read goes some is =
      (is, omega (arith, read.counted, g.1), goes ∙ sym read.before ∙ g.2)
  more_of no_memory s (Done told) g read goes some is = (is, stops s g read, λ no_room. some)

  -- a read that gave nothing leaves the stage
  still : (s : Stage) → IsUnderWay remaining first old s → MakesOneRead remaining old new
      → last_given new ≡ [] → IsAtStage (remaining first.reader.now) (remaining new.reader.now) s
  still s g read none = (
    g.0.0,
    subst (Consumes (remaining first.reader.now) (remaining new.reader.now)) (append-nil g.0.0)
        (Consumes-trans _ _ _ g.0.0 [] g.0.1
        (subst (Consumes (remaining old.reader.now) (remaining new.reader.now)) none read.gave)),
    g.0.2,
  )

  -- a state that stayed
  kept : (s : Stage) → IsUnderWay remaining first old s → new ≡ old
      → StaysOpen (remaining first.reader.now) (remaining new.reader.now)
  kept s g same = subst (λ r. StaysOpen (remaining first.reader.now) (remaining r.reader.now))
      (sym same) (left_open _ _ s g.0)

  -- a failed read, and one too many, leave the request open
  pub fails : (s : Stage) (why : EngineFault) → IsUnderWay remaining first old s
      → ReadIs remaining old new (Err why) → FailsOpen remaining first new why
  fails s Read g (inl made) = record {
    open_yet = (inl refl, left_open _ _ s (still s g made.0 made.2));
    failed = λ _. inl made.1;
    none_left = λ e. absurd (cc e);
  }
  fails s Read g (inr none) = record {
    open_yet = (inl refl, kept s g none.1);
    failed = λ _. inr (sym g.2 ∙ none.0);
    none_left = λ e. absurd (cc e);
  }
  fails s TooManyReads g none = record {
    open_yet = (inr refl, kept s g none.1);
    failed = λ e. absurd (cc e);
    none_left = λ _. subst (λ r. r.left ≡ 0) (sym none.1) none.0;
  }
  fails s Write g h = absurd h
  fails s WantOfMemory g h = absurd h
