-- What stands of a text in a line, by what is said of `floor_char_boundary`.
use Rattle.std.proofs.Common.{◌≡◌, ℕ, zero, suc, ◌≤◌, ◌<◌, List, length, take, true, false, refl}
use Rattle.std.proofs.Common.{ap, sym, subst, ◌∙◌, ⊎_elim, cond, arith}
use Rattle.std.proofs.lemmas.Bool.{le-leb, lt-leb, lt-ltb, le-ltb, cases_lt}
use Rattle.std.specs.Fmt.{is_char_start}
use Rattle.std.specs.Fmt.Cut.{floor_char_boundary}
use Rattle.std.specs.Str.{IsCharBoundary}
use Rattle.hq_log.specs.Lines.{shown, most_shown}

-- what the method says of its result
abbrev pub IsLastBoundary : List ℕ → ℕ → ℕ → Type 0
IsLastBoundary bs i kept = (kept ≤ i) × IsCharBoundary bs kept
    × ((j : ℕ) → kept < j → j ≤ i → ¬ (IsCharBoundary bs j))

-- a byte begins a character, or goes on with one
starts : (b : ℕ) → (128 ≤ b → 192 ≤ b) → is_char_start b ≡ true
starts b h = ⊎_elim (λ low. rw (lt-ltb b 128 low) refl)
    (λ high. rw (le-ltb b 128 high, le-leb 192 b (h high)) refl) (cases_lt b 128)

continues : (b : ℕ) → ¬ (128 ≤ b → 192 ≤ b) → is_char_start b ≡ false
continues b h = ⊎_elim (λ low. absurd (h (λ high. omega arith)))
    (λ high. ⊎_elim (λ mid. rw (le-ltb b 128 high, lt-leb 192 b mid) refl)
    (λ top. absurd (h (λ _. top))) (cases_lt b 192)) (cases_lt b 128)

-- so there is one such result
boundary_is : (bs : List ℕ) (i kept : ℕ) → i < length bs → IsLastBoundary bs i kept →
    floor_char_boundary bs i ≡ kept
unfolding floor_char_boundary
boundary_is bs zero kept within last = omega arith
boundary_is bs (suc i) kept within last = ⊎_elim
    (λ below. ap (λ t. cond t (suc i) (floor_char_boundary bs i))
    (continues _ (λ h. last.2 (suc i) below (omega arith) (omega arith, λ _. h)))
    ∙ boundary_is bs i kept (omega arith)
    (omega arith, last.1, λ j p q. last.2 j p (omega arith)))
    (λ above. let same : kept ≡ suc i = omega arith in
    ap (λ t. cond t (suc i) (floor_char_boundary bs i))
    (starts _ ((subst (IsCharBoundary bs) same last.1).1 within)) ∙ sym same)
    (cases_lt kept (suc i))

pub shown_whole : (text : List ℕ) → length text ≤ most_shown → text ≡ shown text
unfolding shown
shown_whole text fits = rw (le-leb (length text) most_shown fits) refl

pub shown_cut : (text : List ℕ) (kept : ℕ) → most_shown < length text →
    IsLastBoundary text most_shown kept → take kept text ≡ shown text
unfolding shown
shown_cut text kept long last = rw (lt-leb (length text) most_shown long)
    (ap (λ n. take n text) (sym (boundary_is text most_shown kept long last)))
