-- How a batch ends, in other words; and where each round is of one line.
use Rattle.std.proofs.Common.{◌≡◌, ℕ, List, [], ◌∷◌, ◌++◌, take, Option, Result, Ok, Err, refl}
use Rattle.std.proofs.Common.{ap, ◌∙◌, subst, append-nil}
use Rattle.std.specs.Bool.{⊤}
use Rattle.std.specs.List.{concat}
use Rattle.std.specs.Io.KnownBytes.{Appends}
use Rattle.hq_values.specs.declared.engine.EngineFault.{EngineFault}
use Rattle.hq_values.specs.declared.engine.EngineFault.TheVariants.{Read, Write, TooManyReads}
use Rattle.hq_values.specs.declared.engine.EngineFault.TheVariants.{WantOfMemory}
use Rattle.hq_values.specs.Turns.{InTurn}
use Rattle.hq_lines.specs.Ends.{InputEnds, RoundsEnd}
use Rattle.hq_lines.specs.Fields.{LineRequest}
use Rattle.hq_lines.specs.Lines.{whole_lines, lines_in, Streams, AnsweredLines, BrokenOff}
use Rattle.hq_lines.specs.Rounds.{AnsweredInRounds, OneEach, RoundBrokenOff, one_list}
use Rattle.hq_lines.proofs.First.{one_list_on}

-- what is said of requests and replies may be said in other words, and so may what is not touched
module _ (done other : List (Option LineRequest) → List (List ℕ) → Type 0) {X Y : Type 0}
    (so : (asked : List (Option LineRequest)) (replies : List (List ℕ)) → done asked replies →
    other asked replies) (less : X → Y) where
  pub served_as : (lines : List ℕ → List (List ℕ)) (old new : Streams)
      → AnsweredLines done lines old new →
      AnsweredLines other lines old new
  served_as lines old new p = record {
    bytes = p.bytes;
    replies = p.replies;
    read = p.read;
    written = p.written;
    done_all = so _ _ p.done_all;
  }

  pub ends_as : (old new : Streams) (result : Result ⊤ EngineFault)
      → InputEnds done X old new result →
      InputEnds other Y old new result
  ends_as old new (Ok x) p = (served_as lines_in old new p.0, p.1)
  ends_as old new (Err Read) p = served_as whole_lines old new p
  ends_as old new (Err TooManyReads) p = served_as whole_lines old new p
  ends_as old new (Err Write) p = record {
    bytes = p.bytes;
    first = p.first;
    missed = p.missed;
    replies = p.replies;
    read = p.read;
    written = p.written;
    lines = p.lines;
    done_first = so _ _ p.done_first;
  }
  ends_as old new (Err WantOfMemory) p = less p

-- the same of rounds
module _ (done other : List (List (Option LineRequest)) → List (List (List ℕ)) → Type 0)
    {X Y : Type 0} (so : (asked : List (List (Option LineRequest)))
    (replies : List (List (List ℕ))) → done asked replies → other asked replies)
    (less : X → Y) where
  rounds_as : (lines : List ℕ → List (List ℕ)) (old new : Streams) →
      AnsweredInRounds done lines old new → AnsweredInRounds other lines old new
  rounds_as lines old new p = record {
    bytes = p.bytes;
    asked = p.asked;
    replies = p.replies;
    read = p.read;
    written = p.written;
    all = p.all;
    done_all = so _ _ p.done_all;
  }

  pub rounds_end_as : (old new : Streams) (result : Result ⊤ EngineFault) →
      RoundsEnd done X old new result → RoundsEnd other Y old new result
  rounds_end_as old new (Ok x) p = (rounds_as lines_in old new p.0, p.1)
  rounds_end_as old new (Err Read) p = rounds_as whole_lines old new p
  rounds_end_as old new (Err TooManyReads) p = rounds_as whole_lines old new p
  rounds_end_as old new (Err Write) p = record {
    bytes = p.bytes;
    first = p.first;
    missed = p.missed;
    asked = p.asked;
    replies = p.replies;
    read = p.read;
    written = p.written;
    lines = p.lines;
    all = p.all;
    done_first = so _ _ p.done_first;
  }
  rounds_end_as old new (Err WantOfMemory) p = less p

-- ---- rounds of one line each

module _ {S : Type 0} (step : S → Option LineRequest → List ℕ → S → Type 0) where
  one_by_one : (old new : S) (asked : List (List (Option LineRequest)))
      (replies : List (List (List ℕ))) → InTurn (OneEach step) old asked replies new →
      InTurn step old (one_list asked) (one_list replies) new
  one_by_one old new [] [] p = p
  one_by_one old new [] (rs ∷ replies) p = absurd p
  one_by_one old new (qs ∷ asked) [] p = absurd p
  one_by_one old new ((q ∷ []) ∷ asked) ((r ∷ []) ∷ replies) p =
      (p.0, p.1, one_by_one p.0 new asked replies p.2)
  one_by_one old new ([] ∷ asked) (rs ∷ replies) p = absurd p.1
  one_by_one old new ((q ∷ []) ∷ asked) ([] ∷ replies) p = absurd p.1
  one_by_one old new ((q ∷ []) ∷ asked) ((r ∷ r' ∷ rs) ∷ replies) p = absurd p.1
  one_by_one old new ((q ∷ q' ∷ qs) ∷ asked) (rs ∷ replies) p = absurd p.1

  one_reply : (old new : S) (qs : List (Option LineRequest)) (rs : List (List ℕ)) →
      OneEach step old qs rs new → (reply : List ℕ) × (rs ≡ reply ∷ [])
  one_reply old new (q ∷ []) (r ∷ []) p = (r, refl)
  one_reply old new [] rs p = absurd p
  one_reply old new (q ∷ []) [] p = absurd p
  one_reply old new (q ∷ []) (r ∷ r' ∷ rs) p = absurd p
  one_reply old new (q ∷ q' ∷ qs) rs p = absurd p

  -- the last round had one reply
  last_reply : (old new : S) (asked : List (List (Option LineRequest)))
      (whole : List (List (List ℕ))) (last : List (List ℕ)) →
      InTurn (OneEach step) old asked (whole ++ last ∷ []) new →
      (reply : List ℕ) × (last ≡ reply ∷ [])
  last_reply old new [] [] last p = absurd p
  last_reply old new [] (rs ∷ whole) last p = absurd p
  last_reply old new (qs ∷ asked) [] last p = one_reply old p.0 qs last p.1
  last_reply old new (qs ∷ asked) (rs ∷ whole) last p = last_reply p.0 new asked whole last p.2

  broken_alone : (old new : S) (asked : List (List (Option LineRequest)))
      (replies : List (List (List ℕ))) (w v : Option (List ℕ)) →
      InTurn (OneEach step) old asked replies new → RoundBrokenOff w v replies →
      BrokenOff w v (one_list replies)
  broken_alone old new asked replies w v run p =
      let one = last_reply old new asked p.whole p.last
      (subst (λ l. InTurn (OneEach step) old asked l new) p.all run) in
      record {
        whole = one_list p.whole;
        last = one.0;
        size = p.size;
        all = ap one_list p.all ∙ one_list_on p.whole (p.last ∷ [])
            ∙ ap (λ l. one_list p.whole ++ l) (append-nil p.last ∙ one.1);
        written = subst (Appends w v) (ap (λ l. concat (one_list p.whole) ++ take p.size l)
            (ap concat one.1 ∙ append-nil one.0)) p.written;
      }

  answered_alone : (old new : S) (lines : List ℕ → List (List ℕ)) (start end : Streams) →
      AnsweredInRounds (λ asked replies. InTurn (OneEach step) old asked replies new) lines start
      end → AnsweredLines (λ asked replies. InTurn step old asked replies new) lines start end
  answered_alone old new lines start end p = record {
    bytes = p.bytes;
    replies = one_list p.replies;
    read = p.read;
    written = p.written;
    done_all = subst (λ l. InTurn step old l (one_list p.replies) new) p.all
        (one_by_one old new p.asked p.replies p.done_all);
  }

  -- the lines are answered one by one
  pub ends_alone : (X : Type 0) (old new : S) (start end : Streams)
      (result : Result ⊤ EngineFault) →
      RoundsEnd (λ asked replies. InTurn (OneEach step) old asked replies new) X start end
      result →
      InputEnds (λ asked replies. InTurn step old asked replies new) X start end result
  ends_alone X old new start end (Ok x) p = (answered_alone old new lines_in start end p.0, p.1)
  ends_alone X old new start end (Err Read) p = answered_alone old new whole_lines start end p
  ends_alone X old new start end (Err TooManyReads) p =
      answered_alone old new whole_lines start end p
  ends_alone X old new start end (Err Write) p = record {
    bytes = p.bytes;
    first = p.first;
    missed = p.missed;
    replies = one_list p.replies;
    read = p.read;
    written = broken_alone old new p.asked p.replies start.output end.output p.done_first
        p.written;
    lines = p.lines;
    done_first = subst (λ l. InTurn step old l (one_list p.replies) new) p.all
        (one_by_one old new p.asked p.replies p.done_first);
  }
  ends_alone X old new start end (Err WantOfMemory) p = p
