-- Recipients in rows: to drop a message's and push new ones is to deal them in the table, and the
-- rows stay in the order of places.
use Rattle.std.proofs.Common.{◌≡◌, ◌≢◌, ℕ, suc, ◌≤◌, Bool, true, false, cond, not, ◌&&◌, T, List}
use Rattle.std.proofs.Common.{[], ◌∷◌, ◌++◌, map, filter, sym, refl, ap, ◌∙◌, subst, Some, None}
use Rattle.std.proofs.Common.{arith, append_assoc, append-nil, true≢false}
use Rattle.std.specs.declared.cmp.Ordering.{Ordering}
use Rattle.std.specs.Ordering.{nat_cmp, eq_by_cmp}
use Rattle.std.specs.Cmp.{IsTotalOrder, nat_cmp_total}
use Rattle.std.specs.Cmp.Lexicographic.{nat_list_cmp_total}
use Rattle.std.proofs.lemmas.List.{map-append}
use Rattle.std.proofs.lemmas.List.Elements.{filter-append}
use Rattle.std.proofs.lemmas.Map.Lookups.{CmpEqualImpliesEq, exact_bytes, exact_unsigned}
use Rattle.std.specs.FinMap.{get, retain_keys, get-insert, get-retain_keys}
use Rattle.hq_kept.specs.declared.message.Pending.{Pending}
use Rattle.hq_owned.specs.Owned.{by_both}
use Rattle.hq_tables.specs.Tables.{text_cmp, recipient_cmp, pending_of, place_all, deal}
use Rattle.hq_owned.proofs.Parts.{both_total, both_exact, tied_true, tied_false}
use Rattle.hq_isolation.proofs.Dealt.{Recipients, pending_same, pending_other_message}
use Rattle.hq_isolation.proofs.Dealt.{pending_other_owner}
use Rattle.hq_owned.proofs.Lists.{table_keep, table_push}
use Rattle.hq_rows.specs.declared.rows.RecipientRow.{RecipientRow}
use Rattle.hq_rows.specs.Listed.{recipient_key, recipient_value, recipients_of}
use Rattle.hq_rows.specs.Lookups.{is_recipient, recipient_rows, pending_in, AreDealt}
use Rattle.hq_owned.proofs.Cases.{equal}

place_total : IsTotalOrder (by_both nat_cmp nat_cmp)
place_total = both_total nat_cmp_total nat_cmp_total

total : IsTotalOrder recipient_cmp
total = both_total nat_list_cmp_total place_total

exact : CmpEqualImpliesEq recipient_cmp
exact = both_exact exact_bytes (both_exact exact_unsigned exact_unsigned)

abbrev test : List ℕ → ℕ → List ℕ × (ℕ × ℕ) → Bool
test c serial k = not (eq_by_cmp text_cmp c k.0 && eq_by_cmp nat_cmp serial k.1.0)

abbrev pub without : List ℕ → ℕ → List RecipientRow → List RecipientRow
without c serial rows = filter (λ r. not (is_recipient c serial r)) rows

dropped : (c : List ℕ) (serial : ℕ) (rows : List RecipientRow) →
    recipients_of (without c serial rows) ≡ retain_keys (recipients_of rows) (test c serial)
unfolding is_recipient
dropped c serial rows = table_keep total exact recipient_key recipient_value (test c serial) rows

-- no recipient of the message stands at a place from i on
abbrev IsFree : List ℕ → ℕ → ℕ → Recipients → Type 0
IsFree c serial i m = (j : ℕ) → i ≤ j → get m (c, (serial, j)) ≡ None

added : (c : List ℕ) (serial i : ℕ) (ps : List Pending) (rows : List RecipientRow) →
    IsFree c serial i (recipients_of rows) → recipients_of (rows ++ recipient_rows c serial i ps) ≡
    place_all c serial i ps (recipients_of rows)
added c serial i [] rows free = ap recipients_of (append-nil rows)
added c serial i (p ∷ ps) rows free =
    let r : RecipientRow = record { customer = c; serial = serial; place = i; pending = p } in
    let pushed = table_push total exact recipient_key recipient_value rows r (free i (omega arith))
    in
    ap recipients_of (sym (append_assoc rows (r ∷ []) (recipient_rows c serial (suc i) ps)))
    ∙ added c serial (suc i) ps (rows ++ r ∷ []) (λ j le.
    ap (λ m. get m (c, (serial, j))) pushed
    ∙ get-insert total (recipients_of rows) (c, (serial, i)) p (c, (serial, j))
    ∙ ap (λ b. cond b (Some p) (get (recipients_of rows) (c, (serial, j))))
    (tied_false exact (c, (serial, j)) (c, (serial, i)) (λ e. let k : j ≡ i =
    ap (λ x. x.1.1) e in omega arith))
    ∙ free j (omega arith))
    ∙ ap (place_all c serial (suc i) ps) pushed

free_left : (c : List ℕ) (serial : ℕ) (rows : List RecipientRow) →
    IsFree c serial 1 (recipients_of (without c serial rows))
free_left c serial rows j le =
    ap (λ m. get m (c, (serial, j))) (dropped c serial rows)
    ∙ get-retain_keys (recipients_of rows) (test c serial) (c, (serial, j))
    (λ x e. ap (test c serial) (sym (exact (c, (serial, j)) x e)))
    ∙ ap (λ b. cond b (get (recipients_of rows) (c, (serial, j))) None)
    (λ i. not (tied_true nat_list_cmp_total c i && tied_true nat_cmp_total serial i))

-- DEAL
pub dealt_table : (c : List ℕ) (serial : ℕ) (ps : List Pending) (rows : List RecipientRow) →
    recipients_of (without c serial rows ++ recipient_rows c serial 1 ps) ≡ deal c serial ps
    (recipients_of rows)
unfolding deal
dealt_table c serial ps rows = added c serial 1 ps (without c serial rows) (free_left c serial rows)
    ∙ ap (place_all c serial 1 ps) (dropped c serial rows)

-- ---- the order of rows

module _ {A : Type 0} (p q : A → Bool) where
  filter_none : (rows : List A) → filter p (filter (λ r. not (p r)) rows) ≡ []
  filter_none [] = refl
  filter_none (r ∷ rs) =
      let left = filter (λ r. not (p r)) rs in
      elim (p r) as (λ b. p r ≡ b → filter p (cond (not b) (r ∷ left) left) ≡ []) [
        | true ↦ λ t. filter_none rs
        | false ↦ λ t. ap (λ b. cond b (r ∷ filter p left) (filter p left)) t ∙ filter_none rs
      ] refl

  filter_apart : ((r : A) → p r ≡ true → q r ≡ false) → (rows : List A) →
      filter p (filter (λ r. not (q r)) rows) ≡ filter p rows
  filter_apart apart [] = refl
  filter_apart apart (r ∷ rs) =
      let left = filter (λ r. not (q r)) rs in
      let rest = filter_apart apart rs in
      elim (p r) as (λ b. p r ≡ b → filter p (cond (not (q r)) (r ∷ left) left) ≡ cond b (r
      ∷ filter p rs) (filter p rs)) [
        | true ↦ λ t. ap (λ b. filter p (cond (not b) (r ∷ left) left)) (apart r t)
            ∙ ap (λ b. cond b (r ∷ filter p left) (filter p left)) t ∙ ap (λ xs. r ∷ xs) rest
        | false ↦ λ t. elim (q r) as (λ b. filter p (cond (not b) (r ∷ left) left) ≡ filter p left)
            [ true ↦ refl | false ↦ ap (λ b. cond b (r ∷ filter p left) (filter p left)) t ] ∙ rest
      ] refl

and_first : (a b : Bool) → (a && b) ≡ true → a ≡ true
and_first true b h = refl
and_first false b h = h

and_second : (a b : Bool) → (a && b) ≡ true → b ≡ true
and_second true b h = h
and_second false b h = absurd (true≢false (sym h))

and_false : (a : Bool) → (a && false) ≡ false
and_false true = refl
and_false false = refl

same : {N : Type 0} {S : N → N → Ordering} → CmpEqualImpliesEq S → (x y : N) →
    eq_by_cmp S x y ≡ true → x ≡ y
same exact x y h = exact x y (equal _ (subst T (sym h) tt))

apart_from : {N : Type 0} {S : N → N → Ordering} → IsTotalOrder S → (x y : N) →
    eq_by_cmp S x y ≡ false → x ≢ y
apart_from {S = S} o x y h e = true≢false (sym (tied_true o x) ∙ ap (eq_by_cmp S x) e ∙ h)

-- one message's rows, and another's
own_rows : (c : List ℕ) (serial i : ℕ) (ps : List Pending) →
    pending_in c serial (recipient_rows c serial i ps) ≡ ps
unfolding is_recipient
own_rows c serial i [] = refl
own_rows c serial i (p ∷ ps) =
    let rest = filter (is_recipient c serial) (recipient_rows c serial (suc i) ps) in
    ap (λ b. map recipient_value (cond b (record {
      customer = c;
      serial = serial;
      place = i;
      pending = p;
    } ∷ rest) rest)) (λ k. tied_true nat_list_cmp_total c k
    && tied_true nat_cmp_total serial k)
    ∙ ap (λ xs. p ∷ xs) (own_rows c serial (suc i) ps)

other_rows : (d c : List ℕ) (k serial i : ℕ) (ps : List Pending) →
    (eq_by_cmp text_cmp d c && eq_by_cmp nat_cmp k serial) ≡ false →
    filter (is_recipient d k) (recipient_rows c serial i ps) ≡ []
unfolding is_recipient
other_rows d c k serial i [] h = refl
other_rows d c k serial i (p ∷ ps) h =
    let rest = filter (is_recipient d k) (recipient_rows c serial (suc i) ps) in
    ap (λ b. cond b (record { customer = c; serial = serial; place = i; pending = p } ∷ rest) rest)
    h ∙ other_rows d c k serial (suc i) ps h

split : (d : List ℕ) (k : ℕ) (xs ys : List RecipientRow) →
    pending_in d k (xs ++ ys) ≡ pending_in d k xs ++ pending_in d k ys
split d k xs ys = ap (map recipient_value) (filter-append (is_recipient d k) xs ys)
    ∙ map-append recipient_value (filter (is_recipient d k) xs) (filter (is_recipient d k) ys)

here : (c : List ℕ) (serial : ℕ) (ps : List Pending) (rows : List RecipientRow) →
    pending_in c serial (without c serial rows ++ recipient_rows c serial 1 ps) ≡ ps
here c serial ps rows =
    split c serial (without c serial rows) (recipient_rows c serial 1 ps)
    ∙ ap (λ xs. map recipient_value xs ++ pending_in c serial (recipient_rows c serial 1 ps))
    (filter_none (is_recipient c serial) (is_recipient c serial) rows)
    ∙ own_rows c serial 1 ps

elsewhere : (d c : List ℕ) (k serial : ℕ) (ps : List Pending) (rows : List RecipientRow) →
    (eq_by_cmp text_cmp d c && eq_by_cmp nat_cmp k serial) ≡ false →
    ((r : RecipientRow) → is_recipient d k r ≡ true → is_recipient c serial r ≡ false)
    → pending_in d k (without c serial rows ++ recipient_rows c serial 1 ps) ≡ pending_in d k rows
elsewhere d c k serial ps rows h apart =
    split d k (without c serial rows) (recipient_rows c serial 1 ps)
    ∙ ap (λ xs. pending_in d k (without c serial rows) ++ map recipient_value xs)
    (other_rows d c k serial 1 ps h)
    ∙ append-nil _ ∙ ap (map recipient_value)
    (filter_apart (is_recipient d k) (is_recipient c serial) apart rows)

apart_owner : (d c : List ℕ) (k serial : ℕ) → d ≢ c → (r : RecipientRow) → is_recipient d k r ≡ true
    → is_recipient c serial r ≡ false
unfolding is_recipient
apart_owner d c k serial n r h =
    let e : d ≡ r.customer = same exact_bytes d r.customer (and_first _ _ h) in
    ap (λ b. b && eq_by_cmp nat_cmp serial r.serial)
    (tied_false exact_bytes c r.customer (λ f. n (e ∙ sym f)))

apart_message : (d c : List ℕ) (k serial : ℕ) → k ≢ serial → (r : RecipientRow) →
    is_recipient d k r ≡ true → is_recipient c serial r ≡ false
unfolding is_recipient
apart_message d c k serial n r h =
    let e : k ≡ r.serial =
    same exact_unsigned k r.serial (and_second (eq_by_cmp text_cmp d r.customer) _ h) in
    ap (λ b. eq_by_cmp text_cmp c r.customer && b)
    (tied_false exact_unsigned serial r.serial (λ f. n (e ∙ sym f)))
    ∙ and_false (eq_by_cmp text_cmp c r.customer)

-- rows in the order of places stay so
pub dealt_rows : (c : List ℕ) (serial : ℕ) (ps : List Pending) (rows : List RecipientRow) →
    AreDealt rows → AreDealt (without c serial rows ++ recipient_rows c serial 1 ps)
unfolding AreDealt
dealt_rows c serial ps rows all d k =
    let at = ap (pending_of d k) (dealt_table c serial ps rows) in
    elim (eq_by_cmp text_cmp d c) as (λ b. eq_by_cmp text_cmp d c ≡ b →
    pending_in d k (without c serial rows ++ recipient_rows c serial 1 ps) ≡ pending_of d k
    (recipients_of (without c serial rows ++ recipient_rows c serial 1 ps))) [
      | false ↦ λ t.
          let n = apart_from nat_list_cmp_total d c t in
          elsewhere d c k serial ps rows (ap (λ b. b && eq_by_cmp nat_cmp k serial) t)
          (apart_owner d c k serial n) ∙ all d k
          ∙ sym (pending_other_owner c d serial k ps (recipients_of rows) n) ∙ sym at
      | true ↦ λ t.
          let e = same exact_bytes d c t in
          elim (eq_by_cmp nat_cmp k serial) as (λ b. eq_by_cmp nat_cmp k serial ≡ b →
          pending_in d k (without c serial rows ++ recipient_rows c serial 1 ps) ≡ pending_of d
          k (recipients_of (without c serial rows ++ recipient_rows c serial 1 ps))) [
            | false ↦ λ u.
                let n = apart_from nat_cmp_total k serial u in
                elsewhere d c k serial ps rows (ap (λ b. eq_by_cmp text_cmp d c && b) u
                ∙ and_false (eq_by_cmp text_cmp d c)) (apart_message d c k serial n) ∙ all d k
                ∙ ap (λ x. pending_of x k (recipients_of rows)) e
                ∙ sym (pending_other_message c serial k ps (recipients_of rows) n)
                ∙ ap (λ x. pending_of x k (deal c serial ps (recipients_of rows))) (sym e)
                ∙ sym at
            | true ↦ λ u.
                let f = same exact_unsigned k serial u in
                (λ i. pending_in (e i) (f i) (without c serial rows
                ++ recipient_rows c serial 1 ps)) ∙ here c serial ps rows
                ∙ sym (pending_same c serial ps (recipients_of rows))
                ∙ (λ i. pending_of (sym e i) (sym f i) (deal c serial ps (recipients_of rows)))
                ∙ sym at
          ] refl
    ] refl

pub dealt_is : (rows : List RecipientRow) → AreDealt rows → (c : List ℕ) (serial : ℕ) →
    pending_in c serial rows ≡ pending_of c serial (recipients_of rows)
unfolding AreDealt
dealt_is rows all c serial = all c serial
