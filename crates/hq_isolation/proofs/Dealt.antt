-- The recipients of each message, when one message's recipients are dealt anew.
use Rattle.std.proofs.Common.{◌≡◌, ◌≢◌, ℕ, suc, ◌<◌, Bool, false, cond, not, ◌&&◌, List, [], ◌∷◌}
use Rattle.std.proofs.Common.{◌++◌, map, length, sym, refl, ap, ◌∙◌, None, arith, append_assoc}
use Rattle.std.proofs.Common.{append-nil}
use Rattle.std.proofs.lemmas.List.{map-append}
use Rattle.std.specs.declared.cmp.Ordering.TheVariants.{Greater}
use Rattle.std.specs.Ordering.{nat_cmp, eq_by_cmp}
use Rattle.std.specs.Cmp.{nat_cmp_total, nat_cmp_is}
use Rattle.std.specs.Cmp.Lexicographic.{nat_list_cmp_total}
use Rattle.std.specs.FinMap.{FinMap, empty, entries, values, get, insert, retain_keys}
use Rattle.std.specs.FinMap.{entries-insert, get-retain_keys, get-empty, same_map, put, len-entries}
use Rattle.std.specs.FinMap.{len-empty}
use Rattle.std.specs.FinMap.Entries.{by_order}
use Rattle.std.proofs.lemmas.Map.Lookups.{exact_unsigned, exact_bytes}
use Rattle.hq_kept.specs.declared.message.Pending.{Pending}
use Rattle.hq_owned.specs.Owned.{part_of}
use Rattle.hq_tables.specs.Tables.{text_cmp, recipient_cmp, pending_of, place_all, deal}
use Rattle.hq_tables.specs.Sound.{numbered}
use Rattle.hq_owned.proofs.Parts.{part_insert, part_insert_other, part_retain, part_retain_all}
use Rattle.hq_owned.proofs.Parts.{both_total, both_exact, tied_true, tied_false}

abbrev pub Recipients : Type 0
Recipients = FinMap recipient_cmp Pending

-- ---- one message's recipients

abbrev place_from : ℕ → List Pending → FinMap nat_cmp Pending → FinMap nat_cmp Pending
place_from i [] m = m
place_from i (p ∷ ps) m = place_from (suc i) ps (insert m i p)

abbrev AllBelow : ℕ → List (ℕ × Pending) → Type 0
AllBelow i [] = Unit {0}
AllBelow i (e ∷ es) = (e.0 < i) × AllBelow i es

below_push : (i : ℕ) (p : Pending) (es : List (ℕ × Pending)) → AllBelow i es →
    AllBelow (suc i) (es ++ (i, p) ∷ [])
below_push i p [] h = (omega arith, tt)
below_push i p (e ∷ es) h = (let k : e.0 < i = h.0 in omega arith, below_push i p es h.1)

put_last : (i : ℕ) (p : Pending) (es : List (ℕ × Pending)) → AllBelow i es → put nat_cmp i p es ≡ es
    ++ (i, p) ∷ []
put_last i p [] h = refl
put_last i p (e ∷ es) h =
    ap (λ o. by_order o ((i, p) ∷ e ∷ es) ((e.0, p) ∷ es) (e ∷ put nat_cmp i p es))
    (sym (nat_cmp_is i e.0 Greater h.0)) ∙ ap (λ xs. e ∷ xs) (put_last i p es h.1)

placed : (i : ℕ) (ps : List Pending) (m : FinMap nat_cmp Pending) (es : List (ℕ × Pending)) →
    entries m ≡ es → AllBelow i es → values (place_from i ps m) ≡ map (λ e. e.1) es ++ ps
placed i [] m es is h = ap (map (λ e. e.1)) is ∙ sym (append-nil _)
placed i (p ∷ ps) m es is h =
    placed (suc i) ps (insert m i p) (es ++ (i, p) ∷ []) (entries-insert nat_cmp_total m i p
    ∙ ap (put nat_cmp i p) is ∙ put_last i p es h) (below_push i p es h)
    ∙ ap (λ xs. xs ++ ps) (map-append _ es _) ∙ append_assoc (map (λ e. e.1) es) (p ∷ []) ps

-- ---- in the whole table

same_part : (c : List ℕ) (serial i : ℕ) (ps : List Pending) (rs : Recipients) →
    part_of nat_cmp serial (part_of text_cmp c (place_all c serial i ps rs)) ≡ place_from i ps
    (part_of nat_cmp serial (part_of text_cmp c rs))
same_part c serial i [] rs = refl
same_part c serial i (p ∷ ps) rs =
    same_part c serial (suc i) ps (insert rs (c, (serial, i)) p)
    ∙ ap (place_from (suc i) ps)
    (ap (part_of nat_cmp serial)
    (part_insert nat_list_cmp_total (both_total nat_cmp_total nat_cmp_total) exact_bytes
    (both_exact exact_unsigned exact_unsigned) c rs (serial, i) p)
    ∙ part_insert nat_cmp_total nat_cmp_total exact_unsigned exact_unsigned serial
    (part_of text_cmp c rs) i p)

-- who is not dealt to keeps what there is: another customer, or another message
kept_owner : (c d : List ℕ) (serial i : ℕ) (ps : List Pending) (rs : Recipients) → d ≢ c →
    part_of text_cmp d (place_all c serial i ps rs) ≡ part_of text_cmp d rs
kept_owner c d serial i [] rs apart = refl
kept_owner c d serial i (p ∷ ps) rs apart =
    kept_owner c d serial (suc i) ps (insert rs (c, (serial, i)) p) apart
    ∙ part_insert_other nat_list_cmp_total (both_total nat_cmp_total nat_cmp_total) exact_bytes
    (both_exact exact_unsigned exact_unsigned) c d rs (serial, i) p apart

kept_message : (c : List ℕ) (serial other i : ℕ) (ps : List Pending) (rs : Recipients) →
    other ≢ serial → part_of nat_cmp other (part_of text_cmp c (place_all c serial i ps rs)) ≡
    part_of nat_cmp other (part_of text_cmp c rs)
kept_message c serial other i [] rs apart = refl
kept_message c serial other i (p ∷ ps) rs apart =
    kept_message c serial other (suc i) ps (insert rs (c, (serial, i)) p) apart
    ∙ ap (part_of nat_cmp other)
    (part_insert nat_list_cmp_total (both_total nat_cmp_total nat_cmp_total) exact_bytes
    (both_exact exact_unsigned exact_unsigned) c rs (serial, i) p)
    ∙ part_insert_other nat_cmp_total nat_cmp_total exact_unsigned exact_unsigned serial other
    (part_of text_cmp c rs) i p apart

-- nothing is left where no key passes
retain_none : (m : FinMap nat_cmp Pending) (p : ℕ → Bool) → ((k : ℕ) → p k ≡ false) →
    retain_keys m p ≡ empty
retain_none m p h = same_map nat_cmp_total exact_unsigned _ _
    (λ q. get-retain_keys m p q (λ x e. ap p (sym (exact_unsigned q x e)))
    ∙ ap (λ b. cond b (get m q) None) (h q) ∙ sym (get-empty nat_cmp q))

abbrev test : List ℕ → ℕ → List ℕ × (ℕ × ℕ) → Bool
test c serial k = not (eq_by_cmp text_cmp c k.0 && eq_by_cmp nat_cmp serial k.1.0)

cleared : (c : List ℕ) (serial : ℕ) (rs : Recipients) →
    part_of nat_cmp serial (part_of text_cmp c (retain_keys rs (test c serial))) ≡ empty
cleared c serial rs =
    ap (part_of nat_cmp serial)
    (part_retain nat_list_cmp_total (both_total nat_cmp_total nat_cmp_total) exact_bytes
    (both_exact exact_unsigned exact_unsigned) c rs (test c serial))
    ∙ part_retain nat_cmp_total nat_cmp_total exact_unsigned exact_unsigned serial
    (part_of text_cmp c rs) (λ k. test c serial (c, k))
    ∙ retain_none (part_of nat_cmp serial (part_of text_cmp c rs))
    (λ k. test c serial (c, (serial, k))) (λ k. λ i. not (tied_true nat_list_cmp_total c i
    && tied_true nat_cmp_total serial i))

no_entries : entries (empty {X = Pending} {R = nat_cmp}) ≡ []
no_entries = none _ (sym (len-entries empty) ∙ len-empty nat_cmp Pending) where
  none : (es : List (ℕ × Pending)) → length es ≡ 0 → es ≡ []
  none [] h = refl
  none (e ∷ es) h = absurd (omega arith)

-- the message has the recipients that it was dealt
pub pending_same : (c : List ℕ) (serial : ℕ) (ps : List Pending) (rs : Recipients) →
    pending_of c serial (deal c serial ps rs) ≡ ps
unfolding pending_of deal
pending_same c serial ps rs =
    ap values (same_part c serial 1 ps _ ∙ ap (place_from 1 ps) (cleared c serial rs))
    ∙ placed 1 ps empty [] no_entries tt

pub pending_other_message : (c : List ℕ) (serial other : ℕ) (ps : List Pending) (rs : Recipients) →
    other ≢ serial → pending_of c other (deal c serial ps rs) ≡ pending_of c other rs
unfolding pending_of deal
pending_other_message c serial other ps rs apart =
    ap values (kept_message c serial other 1 ps _ apart
    ∙ ap (part_of nat_cmp other)
    (part_retain nat_list_cmp_total (both_total nat_cmp_total nat_cmp_total) exact_bytes
    (both_exact exact_unsigned exact_unsigned) c rs (test c serial))
    ∙ part_retain_all nat_cmp_total nat_cmp_total exact_unsigned exact_unsigned other
    (part_of text_cmp c rs) (λ k. test c serial (c, k))
    (λ k. ap (λ b. not (eq_by_cmp text_cmp c c && b))
    (tied_false exact_unsigned serial other (λ e. apart (sym e)))
    ∙ ap (λ b. not (b && false)) (tied_true nat_list_cmp_total c)))

pub pending_other_owner : (c d : List ℕ) (serial other : ℕ) (ps : List Pending) (rs : Recipients) →
    d ≢ c → pending_of d other (deal c serial ps rs) ≡ pending_of d other rs
unfolding pending_of deal
pending_other_owner c d serial other ps rs apart =
    ap (λ m. values (part_of nat_cmp other m)) (kept_owner c d serial 1 ps _ apart
    ∙ part_retain_all nat_list_cmp_total (both_total nat_cmp_total nat_cmp_total) exact_bytes
    (both_exact exact_unsigned exact_unsigned) d rs (test c serial)
    (λ k. ap (λ b. not (b && eq_by_cmp nat_cmp serial k.0))
    (tied_false exact_bytes c d (λ e. apart (sym e)))))

-- ---- places

placed_entries : (i : ℕ) (ps : List Pending) (m : FinMap nat_cmp Pending) (es : List (ℕ × Pending))
    → entries m ≡ es → AllBelow i es → entries (place_from i ps m) ≡ es ++ numbered i ps
placed_entries i [] m es is h = is ∙ sym (append-nil es)
placed_entries i (p ∷ ps) m es is h =
    placed_entries (suc i) ps (insert m i p) (es ++ (i, p) ∷ []) (entries-insert nat_cmp_total m i p
    ∙ ap (put nat_cmp i p) is ∙ put_last i p es h) (below_push i p es h)
    ∙ append_assoc es ((i, p) ∷ []) (numbered (suc i) ps)

-- a message's recipients stand at 1, 2, ..
abbrev pub IsPlaced : List ℕ → ℕ → Recipients → Type 0
IsPlaced c serial rs = entries (part_of nat_cmp serial (part_of text_cmp c rs)) ≡ numbered 1
    (pending_of c serial rs)

pub placed_same : (c : List ℕ) (serial : ℕ) (ps : List Pending) (rs : Recipients) →
    IsPlaced c serial (deal c serial ps rs)
unfolding deal
placed_same c serial ps rs =
    ap entries (same_part c serial 1 ps _ ∙ ap (place_from 1 ps) (cleared c serial rs))
    ∙ placed_entries 1 ps empty [] no_entries tt
    ∙ ap (numbered 1) (sym (pending_same c serial ps rs))

pub placed_other_message : (c : List ℕ) (serial other : ℕ) (ps : List Pending) (rs : Recipients) →
    other ≢ serial → IsPlaced c other rs → IsPlaced c other (deal c serial ps rs)
unfolding deal
placed_other_message c serial other ps rs apart h =
    ap entries (kept_message c serial other 1 ps _ apart
    ∙ ap (part_of nat_cmp other)
    (part_retain nat_list_cmp_total (both_total nat_cmp_total nat_cmp_total) exact_bytes
    (both_exact exact_unsigned exact_unsigned) c rs (test c serial))
    ∙ part_retain_all nat_cmp_total nat_cmp_total exact_unsigned exact_unsigned other
    (part_of text_cmp c rs) (λ k. test c serial (c, k))
    (λ k. ap (λ b. not (eq_by_cmp text_cmp c c && b))
    (tied_false exact_unsigned serial other (λ e. apart (sym e)))
    ∙ ap (λ b. not (b && false)) (tied_true nat_list_cmp_total c)))
    ∙ h ∙ ap (numbered 1) (sym (pending_other_message c serial other ps rs apart))

pub placed_other_owner : (c d : List ℕ) (serial other : ℕ) (ps : List Pending) (rs : Recipients) →
    d ≢ c → IsPlaced d other rs → IsPlaced d other (deal c serial ps rs)
unfolding deal
placed_other_owner c d serial other ps rs apart h =
    ap (λ m. entries (part_of nat_cmp other m)) (kept_owner c d serial 1 ps _ apart
    ∙ part_retain_all nat_list_cmp_total (both_total nat_cmp_total nat_cmp_total) exact_bytes
    (both_exact exact_unsigned exact_unsigned) d rs (test c serial)
    (λ k. ap (λ b. not (b && eq_by_cmp nat_cmp serial k.0))
    (tied_false exact_bytes c d (λ e. apart (sym e)))))
    ∙ h ∙ ap (numbered 1) (sym (pending_other_owner c d serial other ps rs apart))
