-- Rounds of the first requests that are there, and what they wrote.
use Rattle.std.proofs.Common.{◌≡◌, ℕ, arith, Bool, true, false, List, [], ◌∷◌, ◌++◌, length}
use Rattle.std.proofs.Common.{Option, Result, Ok, Err, OnOk, refl, sym, ap, ◌∙◌}
use Rattle.std.proofs.Common.{subst}
use Rattle.std.proofs.Common.{cond, eqb, ltb, take, append-nil, append_assoc}
use Rattle.std.specs.Bool.{⊤}
use Rattle.std.specs.List.{filter, concat}
use Rattle.std.specs.Io.KnownBytes.{Appends}
use Rattle.std.proofs.KnownBytes.{Appends-trans}
use Rattle.std.proofs.KnownBytes.{Appends-nil}
use Rattle.std.proofs.lemmas.Bool.{lt-ltb, eqb-false, eqb-true}
use Rattle.std.proofs.lemmas.List.{take-map, take-append-le, take_all}
use Rattle.std.proofs.lemmas.List.Concat.{flat_map-append}
use Rattle.std.proofs.lemmas.List.Folds.{concat-append}
use Rattle.hq_lines.specs.Fields.{LineRequest, request_in}
use Rattle.hq_lines.specs.Lines.{is_filled, requests}
use Rattle.hq_lines.specs.Rounds.{DoesFirst, RoundBrokenOff}
use Rattle.hq_lines.specs.Rounds.{RoundsGoOut, one_list}
use Rattle.hq_lines.specs.Written.{GoesOut}

-- the test for an empty line
pub filled_told : (line : List ℕ) (empty : Bool) → empty ≡ eqb (length line) 0 → empty ≡ false →
    is_filled line ≡ true
filled_told line empty h k = lt-ltb 0 (length line)
    (omega (arith, eqb-false (length line) 0 (sym h ∙ k)))

pub empty_told : (line : List ℕ) (empty : Bool) → empty ≡ eqb (length line) 0 → empty ≡ true →
    is_filled line ≡ false
empty_told line empty h k = ap (ltb 0) (eqb-true (length line) 0 (sym h ∙ k))

pub one_list_on : {A : Type 0} (xss yss : List (List A)) →
    one_list (xss ++ yss) ≡ one_list xss ++ one_list yss
one_list_on {A} xss yss = flat_map-append (λ (xs : List A). xs) xss yss

-- what is written of rounds, and of further ones
out_on : (told others : List (List (List ℕ))) →
    concat (one_list (told ++ others)) ≡ concat (one_list told) ++ concat (one_list others)
out_on told others = ap concat (one_list_on told others)
    ∙ concat-append (one_list told) (one_list others)

-- behind whole rounds, further ones are broken off
broken_behind : (w v u : Option (List ℕ)) (told others : List (List (List ℕ))) →
    Appends w v (concat (one_list told)) → RoundBrokenOff v u others →
    RoundBrokenOff w u (told ++ others)
broken_behind w v u told others p q = record {
  whole = told ++ q.whole;
  last = q.last;
  size = q.size;
  all = ap (λ l. told ++ l) q.all ∙ sym (append_assoc told q.whole (q.last ∷ []));
  written = subst (Appends w u)
      (sym (append_assoc (concat (one_list told)) (concat (one_list q.whole))
      (take q.size (concat q.last)))
      ∙ ap (λ l. l ++ take q.size (concat q.last)) (sym (out_on told q.whole)))
      (Appends-trans w v u _ _ p q.written);
}

pub out_behind : {E : Type 0} (result : Result ⊤ E) (w v u : Option (List ℕ))
    (told others : List (List (List ℕ))) → Appends w v (concat (one_list told)) →
    RoundsGoOut v u others result → RoundsGoOut w u (told ++ others) result
out_behind (Ok x) w v u told others p q = subst (Appends w u) (sym (out_on told others))
    (Appends-trans w v u _ _ p q)
out_behind (Err e) w v u told others p q = broken_behind w v u told others p q

on_ok : {E : Type 0} (result : Result ⊤ E) {P : Type 0} → P → OnOk result P
on_ok (Ok x) p = p
on_ok (Err e) p = tt

-- the replies of one round
one_round : {E : Type 0} (lines : List (List ℕ)) (w v : Option (List ℕ)) (result : Result ⊤ E) →
    GoesOut w v (concat lines) result → RoundsGoOut w v (lines ∷ []) result
one_round lines w v (Ok x) p = subst (Appends w v) (ap concat (sym (append-nil lines))) p
one_round lines w v (Err e) p = record {
  whole = [];
  last = lines;
  size = p.0;
  all = refl;
  written = p.1;
}

-- the first of what lines ask for are what the first lines ask for
pub first_asked : (lines : List (List ℕ)) (asked others : List (Option LineRequest)) →
    requests lines ≡ asked ++ others → asked ≡ requests (take (length asked) lines)
first_asked lines asked others h =
    sym (take_all (length asked) asked (omega arith))
    ∙ sym (take-append-le (length asked) asked others (omega arith))
    ∙ ap (take (length asked)) (sym h)
    ∙ take-map request_in (length asked) lines

module _ {S : Type 0}
    (does : S → List (List (Option LineRequest)) → List (List (List ℕ)) → S → Type 0)
    (waiting : S → List (Option LineRequest)) where
  abbrev Does : {E : Type 0} → List (Option LineRequest) → S → S → Option (List ℕ) →
      Option (List ℕ) → Result ⊤ E → Type 0
  Does {E} came old new wo wn result = DoesFirst {E = E} does waiting came old new wo wn result

  -- what came waits, and nothing was done
  pub only_waits : {E : Type 0} (came : List (Option LineRequest)) (s t : S) (w : Option (List ℕ)) →
      does s [] [] t → waiting t ≡ waiting s ++ came → Does {E = E} came s t w w (Ok tt)
  only_waits came s t w run h = record {
    asked = [];
    replies = [];
    run = run;
    rest = waiting s ++ came;
    all = refl;
    rest_waits = h;
    written = Appends-nil w;
  }

  -- one round of all that waited and came
  pub does_round : {E : Type 0} (came asks : List (Option LineRequest)) (lines : List (List ℕ))
      (s t : S) (w v : Option (List ℕ)) (result : Result ⊤ E) → waiting s ++ came ≡ asks →
      waiting t ≡ [] → does s (asks ∷ []) (lines ∷ []) t → GoesOut w v (concat lines) result →
      Does {E = E} came s t w v result
  does_round came asks lines s t w v result h none run out = record {
    asked = asks ∷ [];
    replies = lines ∷ [];
    run = run;
    rest = [];
    all = h ∙ sym (append-nil (asks ++ []) ∙ append-nil asks);
    rest_waits = on_ok result none;
    written = one_round lines w v result out;
  }

  -- at an error, what came behind is passed over
  pub passed_over : {E F : Type 0} (e : E) (f : F) (came more : List (Option LineRequest)) (s t : S)
      (w v : Option (List ℕ)) → Does {E = E} came s t w v (Err e) →
      Does {E = F} (came ++ more) s t w v (Err f)
  passed_over e f came more s t w v p = record {
    asked = p.asked;
    replies = p.replies;
    run = p.run;
    rest = p.rest ++ more;
    all = sym (append_assoc (waiting s) came more) ∙ ap (λ l. l ++ more) p.all
        ∙ append_assoc (one_list p.asked) p.rest more;
    rest_waits = tt;
    written = p.written;
  }

  -- the same told otherwise
  pub ok_as : {E F : Type 0} (came : List (Option LineRequest)) (s t : S) (w v : Option (List ℕ)) →
      Does {E = E} came s t w v (Ok tt) → Does {E = F} came s t w v (Ok tt)
  ok_as came s t w v p = record {
    asked = p.asked;
    replies = p.replies;
    run = p.run;
    rest = p.rest;
    all = p.all;
    rest_waits = p.rest_waits;
    written = p.written;
  }

  pub err_as : {E F : Type 0} (e : E) (f : F) (came : List (Option LineRequest)) (s t : S)
      (w v : Option (List ℕ)) → Does {E = E} came s t w v (Err e) → Does {E = F} came s t w v (Err
      f)
  err_as e f came s t w v p = record {
    asked = p.asked;
    replies = p.replies;
    run = p.run;
    rest = p.rest;
    all = p.all;
    rest_waits = tt;
    written = p.written;
  }

  -- one line that is not empty
  pub of_line : {E : Type 0} (s t : S) (w v : Option (List ℕ)) (line : List ℕ)
      (result : Result ⊤ E) → is_filled line ≡ true →
      Does {E = E} (request_in line ∷ []) s t w v result →
      Does {E = E} (requests (filter is_filled (line ∷ []))) s t w v result
  of_line {E} s t w v line result h p = subst
      (λ b. Does {E = E} (requests (cond b (line ∷ []) [])) s t w v result) (sym h) p
