-- The steps of the lines together are the replies to all of them, and what the log is told.
use Rattle.std.proofs.Common.{◌≡◌, ℕ, List, [], ◌∷◌, ◌++◌, map, Option, Result, Ok, Err, refl, ap}
use Rattle.std.proofs.Common.{Bor, ◌∙◌, subst, sym}
use Rattle.std.specs.Bool.{⊤}
use Rattle.hq_values.specs.Turns.{InTurn}
use Rattle.hq_rules.specs.Desks.{DeskSight}
use Rattle.hq_log.specs.Entries.{Telling}
use Rattle.hq_log.specs.Lines.{LogEntry}
use Rattle.hq_wire.specs.Exchanges.{Exchanged}
use Rattle.hq_wire.specs.Replies.{SeenReply}
use Rattle.hq_requests.specs.declared.directory.Directory.{Directory}
use Rattle.hq_wire.proofs.Serving.{served}
use Rattle.hq_lines.specs.Ends.{InputEnds}
use Rattle.hq_lines.specs.Fields.{LineRequest}
use Rattle.hq_lines.specs.Lines.{Streams}
use Rattle.hq_values.specs.declared.engine.EngineFault.TheVariants.{Read, Write, TooManyReads}
use Rattle.hq_values.specs.declared.engine.EngineFault.TheVariants.{WantOfMemory}
use Rattle.hq_values.specs.declared.engine.EngineFault.{EngineFault}
use Rattle.hq_batch.specs.Batches.{Replied, TellsLinesOf, ask_in, reply_line}
use Rattle.hq_batch.specs.Steps.{LineStep}
use Rattle.hq_batch.specs.declared.front.Front.{Front}

module _ {D L : Type 0} (sight : DeskSight D) (tells : Telling L) where
  -- what the lines got one after the other, as the replies of exchanges, and what was told
  record Turns (d : Directory) (log_old log_new : L) (old : D) (asked : List (Option LineRequest))
      (lines : List (List ℕ)) (new : D) : Type 0 where
    pub replies : List SeenReply
    pub lines_are : lines ≡ map reply_line replies
    pub run : InTurn (Exchanged sight d) old (map (ask_in d) asked) replies new
    pub told : TellsLinesOf d tells log_old log_new asked replies

module _ {D L M : Type 0} (sight : DeskSight D) (tells : Telling L) where
  module _ (none : (log : L) → tells log [] log) (on : (old mid new : L)
      (told more : List LogEntry) → tells old told mid → tells mid more new →
      tells old (told ++ more) new) where
    turns : (old new : Front D L M) (asked : List (Option LineRequest)) (lines : List (List ℕ)) →
        InTurn (LineStep sight tells) old asked lines new →
        Turns sight tells old.directory.now old.log.now new.log.now old.desk.now asked lines
        new.desk.now
    turns old new [] [] p = record {
      replies = [];
      lines_are = refl;
      run = ap (λ f. f.desk.now) p;
      told = (
        [],
        tt,
        subst (λ (f : Front D L M). tells old.log.now [] f.log.now) (sym p) (none old.log.now),
      );
    }
    turns old new [] (line ∷ lines) p = absurd p
    turns old new (q ∷ asked) [] p = absurd p
    turns old new (q ∷ asked) (line ∷ lines) p =
        let it = p.1.answered in
        let rest = subst (λ (d : Bor Directory). Turns sight tells d.now p.0.log.now new.log.now
        p.0.desk.now asked lines new.desk.now) p.1.directory (turns p.0 new asked lines p.2) in
        record {
          replies = it.reply ∷ rest.replies;
          lines_are = λ i. it.line_is i ∷ rest.lines_are i;
          run = (p.0.desk.now, it.done, rest.run);
          told = (
            it.entry ∷ rest.told.0,
            (it.entry_is, rest.told.1),
            on old.log.now p.0.log.now new.log.now (it.entry ∷ []) rest.told.0 it.told
                rest.told.2,
          );
        }

    -- they are served together
    pub replied : (old new : Front D L M) (asked : List (Option LineRequest))
        (lines : List (List ℕ)) → InTurn (LineStep sight tells) old asked lines new →
        Replied sight old.directory.now tells old.log.now new.log.now old.desk.now asked lines
        new.desk.now
    replied old new asked lines p =
        let all = turns old new asked lines p in (
          all.replies,
          all.lines_are,
          served sight old.directory.now old.desk.now new.desk.now
              (map (ask_in old.directory.now) asked) all.replies all.run,
          all.told,
        )

  -- what each line leaves as it is, all of them do
  module _ {A : Type 0} (kept : Front D L M → A) (keeps : (old new : Front D L M)
      (request : Option LineRequest) (line : List ℕ) → LineStep sight tells old request line new →
      kept new ≡ kept old) where
    all_keep : (old new : Front D L M) (asked : List (Option LineRequest))
        (lines : List (List ℕ)) → InTurn (LineStep sight tells) old asked lines new →
        kept new ≡ kept old
    all_keep old new [] [] p = ap kept p
    all_keep old new [] (line ∷ lines) p = absurd p
    all_keep old new (q ∷ asked) [] p = absurd p
    all_keep old new (q ∷ asked) (line ∷ lines) p =
        all_keep p.0 new asked lines p.2 ∙ keeps old p.0 q line p.1

    -- however the loop ends
    pub lent : {X : Type 0} (old new : Front D L M) → (X → new ≡ old) →
        (start end : Streams) (result : Result ⊤ EngineFault) →
        InputEnds (λ asked lines. InTurn (LineStep sight tells) old asked lines new) X
        start end result → kept new ≡ kept old
    lent old new same start end (Ok x) p = all_keep old new _ p.0.replies p.0.done_all
    lent old new same start end (Err Read) p = all_keep old new _ p.replies p.done_all
    lent old new same start end (Err TooManyReads) p = all_keep old new _ p.replies p.done_all
    lent old new same start end (Err Write) p = all_keep old new _ p.replies p.done_first
    lent old new same start end (Err WantOfMemory) p = ap kept (same p)
