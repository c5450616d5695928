-- Rounds in order, and how far they bring the loop.
use Rattle.std.proofs.Common.{◌≡◌, ◌≢◌, ℕ, Bool, true, false, List, [], ◌∷◌, ◌++◌, length}
use Rattle.std.proofs.Common.{Option, Result, Ok, Err, IfErr, OnOk, inl, inr, refl, sym, ap, ◌∙◌}
use Rattle.std.proofs.Common.{subst}
use Rattle.std.proofs.Common.{cond, eqb, ltb, take, drop, append-nil, append_assoc}
use Rattle.std.proofs.Common.{take-append-drop}
use Rattle.std.specs.Bool.{⊤}
use Rattle.std.specs.List.{filter}
use Rattle.std.specs.Io.KnownBytes.{Consumes, Keeps, IsAtEnd}
use Rattle.std.proofs.KnownBytes.{Consumes-nil, Consumes-trans, Consumes-kept}
use Rattle.std.proofs.lemmas.Bool.{ne_eqb}
use Rattle.std.proofs.lemmas.List.{map-append}
use Rattle.hq_values.specs.declared.engine.EngineFault.{EngineFault}
use Rattle.hq_values.specs.declared.engine.EngineFault.TheVariants.{Write}
use Rattle.hq_lines.specs.Ends.{RoundsEnd}
use Rattle.hq_lines.specs.Fields.{LineRequest, request_in}
use Rattle.hq_lines.specs.Lines.{parted, without_return, is_filled, whole_lines, lines_in, requests}
use Rattle.hq_lines.specs.Lines.{AreRead}
use Rattle.hq_lines.specs.Progress.{kept, Progress, Cut, Going}
use Rattle.hq_lines.specs.Rounds.{AnsweredInRounds, BrokenInRound, DoesFirst}
use Rattle.hq_lines.specs.Rounds.{one_list}
use Rattle.hq_lines.proofs.Lines.{whole_more, first_lines, kept_more, kept_none, asks_kept}
use Rattle.hq_lines.proofs.Lines.{asks_ended}
use Rattle.hq_lines.proofs.First.{empty_told, err_as, first_asked, one_list_on, only_waits}
use Rattle.hq_lines.proofs.First.{out_behind}

module _ {S : Type 0}
    (does : S → List (List (Option LineRequest)) → List (List (List ℕ)) → S → Type 0)
    (none_does : (s : S) → does s [] [] s)
    (on : (old mid new : S) (asked more : List (List (Option LineRequest)))
    (replies others : List (List (List ℕ))) → does old asked replies mid →
    does mid more others new → does old (asked ++ more) (replies ++ others) new)
    (waiting : S → List (Option LineRequest)) where
  abbrev Taking : {E : Type 0} → List (Option LineRequest) → S → S → Option (List ℕ) →
      Option (List ℕ) → Result ⊤ E → Type 0
  Taking {E} came old new wo wn result = DoesFirst {E = E} does waiting came old new wo wn result

  -- nothing came, and nothing was done
  pub none_taken : {E : Type 0} (s : S) (w : Option (List ℕ)) →
      DoesFirst {E = E} does waiting [] s s w w (Ok tt)
  none_taken s w = only_waits does waiting [] s s w (none_does s) (sym (append-nil (waiting s)))

  all_on : (came more rest others_rest : List (Option LineRequest)) (a b : S)
      (asked others : List (List (Option LineRequest))) →
      waiting a ++ came ≡ one_list asked ++ rest → waiting b ≡ rest →
      waiting b ++ more ≡ one_list others ++ others_rest →
      waiting a ++ (came ++ more) ≡ one_list (asked ++ others) ++ others_rest
  all_on came more rest others_rest a b asked others p same q =
      sym (append_assoc (waiting a) came more)
      ∙ ap (λ l. l ++ more) p ∙ append_assoc (one_list asked) rest more
      ∙ ap (λ l. one_list asked ++ (l ++ more)) (sym same)
      ∙ ap (λ l. one_list asked ++ l) q
      ∙ sym (append_assoc (one_list asked) (one_list others) others_rest)
      ∙ ap (λ l. l ++ others_rest) (sym (one_list_on asked others))

  -- what came first, and what came behind it
  pub does_on : {E F : Type 0} (came more : List (Option LineRequest)) (a b c : S)
      (wo w v : Option (List ℕ)) (result : Result ⊤ F) → Taking {E = E} came a b wo w (Ok tt) →
      Taking {E = F} more b c w v result → Taking {E = F} (came ++ more) a c wo v result
  does_on came more a b c wo w v result p q = record {
    asked = p.asked ++ q.asked;
    replies = p.replies ++ q.replies;
    run = on a b c p.asked q.asked p.replies q.replies p.run q.run;
    rest = q.rest;
    all = all_on came more p.rest q.rest a b p.asked q.asked p.all p.rest_waits q.all;
    rest_waits = q.rest_waits;
    written = out_behind result wo w v p.replies q.replies p.written q.written;
  }

  -- what came, and then nothing
  pub does_still : {E F : Type 0} (came : List (Option LineRequest)) (a b c : S)
      (wo w v : Option (List ℕ)) (result : Result ⊤ F) → Taking {E = E} came a b wo w (Ok tt) →
      Taking {E = F} [] b c w v result → Taking {E = F} came a c wo v result
  does_still {E} {F} came a b c wo w v result p q = subst (λ l. Taking {E = F} l a c wo v result)
      (append-nil came) (does_on came [] a b c wo w v result p q)

  -- an empty line, and a byte that ends none, ask for nothing
  pub of_empty : {E : Type 0} (s : S) (w : Option (List ℕ)) (line : List ℕ) (empty : Bool) →
      empty ≡ eqb (length line) 0 → empty ≡ true →
      Taking {E = E} (requests (filter is_filled (line ∷ []))) s s w w (Ok tt)
  of_empty {E} s w line empty h k = subst
      (λ b. Taking {E = E} (requests (cond b (line ∷ []) [])) s s w w (Ok tt))
      (sym (empty_told line empty h k)) (none_taken s w)

  pub of_byte : {E : Type 0} (s : S) (w : Option (List ℕ)) (byte : ℕ) (ended : List (List ℕ)) →
      byte ≢ 10 → Taking {E = E} (requests (cond (eqb byte 10) ended [])) s s w w (Ok tt)
  of_byte {E} s w byte ended h = subst
      (λ b. Taking {E = E} (requests (cond b ended [])) s s w w (Ok tt))
      (sym (ne_eqb byte 10 h)) (none_taken s w)

  -- where none waited and none waits, the rounds are of all that came
  whole_of : {E : Type 0} (came : List (Option LineRequest)) (s t : S) (w v : Option (List ℕ))
      (p : Taking {E = E} came s t w v (Ok tt)) → waiting s ≡ [] →
      waiting t ≡ [] → one_list p.asked ≡ came
  whole_of came s t w v p none rest = sym (append-nil (one_list p.asked))
      ∙ ap (λ l. one_list p.asked ++ l) (sym rest ∙ p.rest_waits) ∙ sym p.all
      ∙ ap (λ l. l ++ came) none

  -- before the first byte
  pub going_none : (ro wo : Option (List ℕ)) (s : S) (line : List ℕ) → line ≡ [] →
      waiting s ≡ [] → Going does waiting ro ro wo wo s s line
  going_none ro wo s line h none = record {
    bytes = [];
    read = Consumes-nil ro;
    progress = record { taken = none_taken s wo; line = h ∙ kept_none };
    none_wait = none;
  }

  -- what the line asks for that one more byte ends, as the loop kept it
  asked_by : (ends : Bool) (kept_line line : List ℕ) → kept_line ≡ kept line →
      requests (cond ends (filter is_filled (without_return kept_line ∷ [])) []) ≡ requests
      (cond ends (filter is_filled (without_return line ∷ [])) [])
  asked_by true kept_line line h = ap (λ l. requests (filter is_filled (without_return l ∷ []))) h
      ∙ asks_ended line
  asked_by false kept_line line h = refl

  asked_more : (xs : List ℕ) (b : ℕ) (old : List ℕ) → old ≡ kept (parted xs).1 →
      requests (whole_lines xs)
      ++ requests (cond (eqb b 10) (filter is_filled (without_return old ∷ [])) []) ≡ requests
      (whole_lines (xs ++ b ∷ []))
  asked_more xs b old h = ap (λ l. requests (whole_lines xs) ++ l)
      (asked_by (eqb b 10) old (parted xs).1 h)
      ∙ sym (map-append request_in (whole_lines xs) _) ∙ ap requests (sym (whole_more xs b))

  taken_more : (xs : List ℕ) (b : ℕ) (wo w v : Option (List ℕ)) (s t u : S) (old : List ℕ)
      (result : Result ⊤ EngineFault) → Progress does waiting xs wo w s t old →
      Taking (requests (cond (eqb b 10) (filter is_filled (without_return old ∷ [])) [])) t u w v
      result → Taking (requests (whole_lines (xs ++ b ∷ []))) s u wo v result
  taken_more xs b wo w v s t u old result p q = subst (λ l. Taking l s u wo v result)
      (asked_more xs b old p.line) (does_on _ _ s t u wo w v result p.taken q)

  -- one more byte
  pub progress_more : (xs : List ℕ) (b : ℕ) (wo w v : Option (List ℕ)) (s t u : S)
      (old new : List ℕ) → Progress does waiting xs wo w s t old →
      new ≡ cond (eqb b 10) [] (cond (ltb (length old) 300001) (old ++ b ∷ []) old) →
      Taking {E = EngineFault}
      (requests (cond (eqb b 10) (filter is_filled (without_return old ∷ [])) [])) t u w v (Ok tt) →
      Progress does waiting (xs ++ b ∷ []) wo v s u new
  progress_more xs b wo w v s t u old new p line q = record {
    taken = taken_more xs b wo w v s t u old (Ok tt) p q;
    line = line ∙ kept_more old xs b p.line;
  }

  -- a reply could not be written
  pub cut_here : (xs ys : List ℕ) (b : ℕ) (wo w v : Option (List ℕ)) (s t u : S)
      (old : List ℕ) (e : EngineFault) → Progress does waiting xs wo w s t old →
      Taking (requests (cond (eqb b 10) (filter is_filled (without_return old ∷ [])) [])) t u w v
      (Err e) → Cut does waiting ((xs ++ b ∷ []) ++ ys) wo v s u
  cut_here xs ys b wo w v s t u old e p q =
      let first = first_lines ys (xs ++ b ∷ []) in
      record {
        first = whole_lines (xs ++ b ∷ []);
        missed = first.0;
        lines = first.1;
        taken = err_as does waiting e Write _ s u wo v (taken_more xs b wo w v s t u old (Err e) p
            q);
      }

  -- behind the last byte of a chunk the lines that waited are answered
  progress_still : (xs : List ℕ) (wo w v : Option (List ℕ)) (s t u : S) (line : List ℕ) →
      Progress does waiting xs wo w s t line → Taking {E = EngineFault} [] t u w v (Ok tt) →
      Progress does waiting xs wo v s u line
  progress_still xs wo w v s t u line p q = record {
    taken = does_still _ s t u wo w v (Ok tt) p.taken q;
    line = p.line;
  }

  -- or their replies could not be written
  cut_behind : (xs : List ℕ) (wo w v : Option (List ℕ)) (s t u : S) (line : List ℕ)
      (e : EngineFault) → Progress does waiting xs wo w s t line → Taking [] t u w v (Err e) →
      Cut does waiting xs wo v s u
  cut_behind xs wo w v s t u line e p q = record {
    first = whole_lines xs;
    missed = [];
    lines = sym (append-nil (whole_lines xs));
    taken = err_as does waiting e Write _ s u wo v (does_still _ s t u wo w v (Err e) p.taken q);
  }

  module _ (xs : List ℕ) (wo w v : Option (List ℕ)) (s t u : S) (line : List ℕ)
      (p : Progress does waiting xs wo w s t line) where
    pub chunk_goes : (result : Result ⊤ EngineFault) → Taking [] t u w v result →
        OnOk result (Progress does waiting xs wo v s u line)
    chunk_goes (Ok x) q = progress_still xs wo w v s t u line p q
    chunk_goes (Err e) q = tt

    pub chunk_cut : (result : Result ⊤ EngineFault) → Taking [] t u w v result →
        IfErr result (λ e. e ≡ Write) →
        IfErr result (λ e. (e ≡ Write) × Cut does waiting xs wo v s u)
    chunk_cut (Ok x) q fault = tt
    chunk_cut (Err e) q fault = (fault, cut_behind xs wo w v s t u line e p q)

  module _ (ro wo : Option (List ℕ)) (s : S) where
    -- a read that gave no byte, or failed
    pub going_kept : (r n w : Option (List ℕ)) (t : S) (line : List ℕ) → Keeps r n →
        Going does waiting ro r wo w s t line → Going does waiting ro n wo w s t line
    going_kept r n w t line k p = record {
      bytes = p.bytes;
      read = Consumes-kept ro r n p.bytes p.read k;
      progress = p.progress;
      none_wait = p.none_wait;
    }

    pub going_nothing : (r n w : Option (List ℕ)) (t : S) (line : List ℕ) → Consumes r n [] →
        Going does waiting ro r wo w s t line → Going does waiting ro n wo w s t line
    going_nothing r n w t line got p = record {
      bytes = p.bytes;
      read =
          subst (Consumes ro n) (append-nil p.bytes) (Consumes-trans ro r n p.bytes [] p.read got);
      progress = p.progress;
      none_wait = p.none_wait;
    }

    -- one more chunk
    pub going_more : (r n w v : Option (List ℕ)) (t u : S) (old new chunk : List ℕ)
        (p : Going does waiting ro r wo w s t old) → Consumes r n chunk →
        Progress does waiting (p.bytes ++ chunk) wo v s u new → waiting u ≡ [] →
        Going does waiting ro n wo v s u new
    going_more r n w v t u old new chunk p got q none =
        record {
          bytes = p.bytes ++ chunk;
          read = Consumes-trans ro r n p.bytes chunk p.read got;
          progress = q;
          none_wait = none;
        }

    abbrev Done : S → List (List (Option LineRequest)) → List (List (List ℕ)) → Type 0
    Done t asked replies = does s asked replies t

    module _ (none : waiting s ≡ []) where
      -- some lines were taken, and of those the first are done
      broken : (n v : Option (List ℕ)) (u : S) (bytes : List ℕ) (first missed : List (List ℕ)) →
          Consumes ro n bytes → AreRead n bytes (first ++ missed) →
          Taking {E = EngineFault} (requests first) s u wo v (Err Write) →
          BrokenInRound (Done u) (record { input = ro; output = wo })
          (record { input = n; output = v })
      broken n v u bytes first missed got read q =
          let count = length (one_list q.asked) in
          record {
            bytes = bytes;
            first = take count first;
            missed = drop count first ++ missed;
            asked = q.asked;
            replies = q.replies;
            read = got;
            written = q.written;
            lines = subst (AreRead n bytes) (ap (λ l. l ++ missed)
                (sym (take-append-drop count first)) ∙ append_assoc (take count first)
                (drop count first) missed) read;
            all = first_asked first (one_list q.asked) q.rest
                (ap (λ l. l ++ requests first) (sym none) ∙ q.all);
            done_first = q.run;
          }

      -- replies in the middle of a chunk could not be written
      pub cut_ends : (e : EngineFault) (r n w v : Option (List ℕ)) (t u : S) (old chunk : List ℕ)
          (p : Going does waiting ro r wo w s t old) → Consumes r n chunk → (e ≡ Write)
          × Cut does waiting (p.bytes ++ chunk) wo v s u → RoundsEnd (Done u) ⊥
          (record { input = ro; output = wo })
          (record { input = n; output = v }) (Err e)
      cut_ends e r n w v t u old chunk p got cut =
          subst (λ f. RoundsEnd (Done u) ⊥ (record { input = ro; output = wo })
          (record { input = n; output = v }) (Err f)) (sym cut.0)
          (broken n v u (p.bytes ++ chunk) cut.1.first cut.1.missed
          (Consumes-trans ro r n p.bytes chunk p.read got) (inl cut.1.lines) cut.1.taken)

      -- the whole lines are answered
      pub served_whole : (n w : Option (List ℕ)) (t : S) (line : List ℕ) →
          Going does waiting ro n wo w s t line →
          AnsweredInRounds (Done t) whole_lines (record { input = ro; output = wo })
          (record { input = n; output = w })
      served_whole n w t line p = record {
        bytes = p.bytes;
        asked = p.progress.taken.asked;
        replies = p.progress.taken.replies;
        read = p.read;
        written = p.progress.taken.written;
        all = whole_of _ s t wo w p.progress.taken none p.none_wait;
        done_all = p.progress.taken.run;
      }

      -- the last line
      taken_last : (n w v : Option (List ℕ)) (t u : S) (line last : List ℕ)
          (result : Result ⊤ EngineFault) → last ≡ line →
          (p : Going does waiting ro n wo w s t line) →
          Taking (requests (filter is_filled (last ∷ []))) t u w v result →
          Taking (requests (lines_in p.bytes)) s u wo v result
      taken_last n w v t u line last result h p q =
          let told = ap (λ l. requests (filter is_filled (l ∷ []))) (h ∙ p.progress.line)
          ∙ asks_kept (parted p.bytes).1 in
          subst (λ l. Taking l s u wo v result)
          (ap (λ l. requests (whole_lines p.bytes) ++ l) told
          ∙ sym (map-append request_in (whole_lines p.bytes) _))
          (does_on _ _ s t u wo w v result p.progress.taken q)

      -- how the batch ends after the last line
      pub ends : (result : Result ⊤ EngineFault) (n w v : Option (List ℕ)) (t u : S)
          (line last : List ℕ) → last ≡ line → IsAtEnd n →
          Going does waiting ro n wo w s t line →
          Taking (requests (filter is_filled (last ∷ []))) t u w v result →
          OnOk result (waiting u ≡ []) → IfErr result (λ e. e ≡ Write) →
          RoundsEnd (Done u) ⊥ (record { input = ro; output = wo })
          (record { input = n; output = v }) result
      ends (Ok x) n w v t u line last h end p q rest fault =
          let all = taken_last n w v t u line last (Ok tt) h p q in (
            record {
              bytes = p.bytes;
              asked = all.asked;
              replies = all.replies;
              read = p.read;
              written = all.written;
              all = whole_of _ s u wo v all none rest;
              done_all = all.run;
            },
            end,
          )
      ends (Err e) n w v t u line last h end p q rest fault =
          subst (λ f. RoundsEnd (Done u) ⊥ (record { input = ro; output = wo })
          (record { input = n; output = v }) (Err f)) (sym fault)
          (broken n v u p.bytes (lines_in p.bytes) [] p.read
          (inr (end, sym (append-nil (lines_in p.bytes))))
          (err_as does waiting e Write _ s u wo v (taken_last n w v t u line last (Err e) h p q)))
