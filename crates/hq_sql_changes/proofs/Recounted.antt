-- A message that is put again: its counts are what they were, and so a change is made as it is
-- said.
use Rattle.std.proofs.Common.{◌≡◌, ℕ, ◌+◌, ◌-◌, List, [], ◌∷◌, Bool, nat_eq, subst, true, false}
use Rattle.std.proofs.Common.{cond, sym, refl, ap, ◌∙◌, Some, None, Option, arith}
use Rattle.std.specs.Prelude.{option_map}
use Rattle.std.specs.Ordering.{eq_by_cmp}
use Rattle.std.specs.Cmp.Lexicographic.{nat_list_cmp_total}
use Rattle.std.specs.FinMap.{get, insert, get-insert, same_map}
use Rattle.std.proofs.lemmas.Bool.Decides.{nat_tests}
use Rattle.std.proofs.lemmas.Map.Lookups.{exact_bytes}
use Rattle.hq_kept.specs.declared.account.Counts.{Counts}
use Rattle.hq_tables.specs.declared.account.Account.{Account}
use Rattle.hq_tables.specs.declared.change.Change.{Change}
use Rattle.hq_tables.specs.declared.change.Change.TheVariants.{PutHead, PutMessage, DropMessage}
use Rattle.hq_tables.specs.declared.change.Change.TheVariants.{PutLine, DropLine, PutMark}
use Rattle.hq_tables.specs.declared.change.Change.TheVariants.{AddNotice, DropNoticesBelow, PutEnds}
use Rattle.hq_tables.specs.declared.change.Change.TheVariants.{DropEndsTo}
use Rattle.hq_tables.specs.Readings.{kept_in}
use Rattle.hq_tables.specs.Sound.{AreCounted}
use Rattle.hq_tables.specs.Tables.{Tables, Row, text_cmp, account, recounted, counted, with_message}
use Rattle.hq_tables.specs.Tables.{without_message, uncounted_message, message_of, write, write_all}
use Rattle.hq_isolation.proofs.Accounts.{Heads, or_opening, counted_own}
use Rattle.hq_isolation.proofs.Counted.{found_after, counts_stay}
use Rattle.hq_tables.proofs.Orders.{message_total, message_exact}
use Rattle.hq_owned.specs.Owned.{given}
use Rattle.hq_sql_recipients.proofs.InPlace.{put_same}
use Rattle.hq_sql_changes.specs.Accounts.{resized, counted_at, made_by, made_by_all}

-- ---- a head row that is written twice

twice : {A : Type 0} (b : Bool) (x y : A) (o : Option A) →
    cond b (Some y) (cond b (Some x) o) ≡ cond b (Some y) o
twice true x y o = refl
twice false x y o = refl

pub put_twice : (heads : Heads) (c : List ℕ) (x y : Account) →
    insert (insert heads c x) c y ≡ insert heads c y
put_twice heads c x y = same_map nat_list_cmp_total exact_bytes _ _ (λ q.
    get-insert nat_list_cmp_total (insert heads c x) c y q
    ∙ ap (cond (eq_by_cmp text_cmp q c) (Some y)) (get-insert nat_list_cmp_total heads c x q)
    ∙ twice (eq_by_cmp text_cmp q c) x y (get heads q)
    ∙ sym (get-insert nat_list_cmp_total heads c y q))

twice_counted : (f g : Counts → Counts) (c : List ℕ) (heads : Heads) →
    counted f c (counted g c heads) ≡ insert heads c (recounted f (recounted g (account heads c)))
unfolding counted
twice_counted f g c heads = ap (λ (a : Account). insert (counted g c heads) c (recounted f a))
    (counted_own g c heads) ∙ put_twice heads c _ _

-- read once and written once
pub is_resized : (c : List ℕ) (before size : ℕ) (heads : Heads) (kept more : Account) →
    kept ≡ account heads c
    → more ≡ recounted (with_message size) (recounted (without_message before) kept) →
    insert heads c more ≡ resized c before size heads
is_resized c before size heads kept more e h =
    ap (insert heads c) (h ∙ ap
    (λ (a : Account). recounted (with_message size) (recounted (without_message before) a)) e)
    ∙ sym (twice_counted (with_message size) (without_message before) c heads)

-- ---- what is counted of a message that is there

there_is : (o : Option Account) →
    (or_opening o).counts.messages ≡ (or_opening o).counts.messages - 1 + 1 →
    o ≡ Some (or_opening o)
there_is None e = absurd (omega (arith, e))
there_is (Some a) e = refl

-- it comes to the same again, in the rows
again : (c : List ℕ) (serial : ℕ) (t : Tables) (r : Row) → get t.messages (c, serial) ≡ Some r →
    kept_in c t ≡ with_message r.size (without_message r.size (kept_in c t))
again c serial t r there =
    sym (ap (λ ms. kept_in c (record t { messages = ms }))
    (put_same message_total message_exact t.messages (c, serial) r there))
    ∙ found_after c (PutMessage (message_of serial r [] [])) t
    ∙ ap (λ o. with_message r.size (given (kept_in c t)
    (λ (x : Row). without_message x.size (kept_in c t)) o)) there

-- and so in the head row, which there is
resized_same : (c : List ℕ) (serial : ℕ) (t : Tables) (r : Row) → AreCounted t →
    get t.messages (c, serial) ≡ Some r → resized c r.size r.size t.heads ≡ t.heads
resized_same c serial t r h there =
    let a : Account = account t.heads c in
    let n : a.counts ≡ with_message r.size (without_message r.size a.counts) = h c
    ∙ again c serial t r there ∙ ap
    (λ (n : Counts). with_message r.size (without_message r.size n)) (sym (h c)) in
    twice_counted (with_message r.size) (without_message r.size) c t.heads
    ∙ ap (λ (k : Counts). insert t.heads c (record a { counts = k })) (sym n)
    ∙ put_same nat_list_cmp_total exact_bytes t.heads c a
    (there_is (get t.heads c) (ap (λ (k : Counts). k.messages) n))

-- ---- by what stands at the serial

same_some : {A : Type 0} (a b : A) → ◌≡◌ {A = Option A} (Some a) (Some b) → a ≡ b
same_some a b e = cc

some_none : {A : Type 0} (a : A) → ◌≡◌ {A = Option A} (Some a) None → ⊥
some_none a e = cc

pub same_size : (a b : ℕ) → a ≡ b → nat_eq a b ≡ true
same_size a b e = grind (arith, nat_tests)

told_same : (a b : ℕ) → nat_eq a b ≡ true → a ≡ b
told_same a b e = grind (arith, nat_tests)

pub other_size : (a b : ℕ) → (a ≡ b → ⊥) → nat_eq a b ≡ false
other_size a b e = grind (arith, nat_tests)

abbrev chosen : List ℕ → ℕ → Heads → Option Row → Heads
chosen c size heads o = given (counted (with_message size) c heads)
    (λ (r : Row). cond (nat_eq r.size size) heads (resized c r.size size heads)) o

pub size_none : (c : List ℕ) (serial size : ℕ) (t : Tables) →
    None ≡ option_map (λ (r : Row). r.size) (get t.messages (c, serial)) →
    counted (with_message size) c t.heads ≡ counted_at c serial size t
size_none c serial size t e = cases (get t.messages (c, serial)) e where
  cases : (o : Option Row) → None ≡ option_map (λ (r : Row). r.size) o →
      counted (with_message size) c t.heads ≡ chosen c size t.heads o
  cases None is = refl
  cases (Some r) is = absurd (some_none r.size (sym is))

pub size_same : (c : List ℕ) (serial size : ℕ) (t : Tables) →
    Some size ≡ option_map (λ (r : Row). r.size) (get t.messages (c, serial)) →
    t.heads ≡ counted_at c serial size t
size_same c serial size t e = cases (get t.messages (c, serial)) e where
  cases : (o : Option Row) → Some size ≡ option_map (λ (r : Row). r.size) o →
      t.heads ≡ chosen c size t.heads o
  cases None is = absurd (some_none size is)
  cases (Some r) is = ap (λ b. cond b t.heads (resized c r.size size t.heads))
      (sym (same_size r.size size (sym (same_some size r.size is))))

pub size_other : (c : List ℕ) (serial before size : ℕ) (t : Tables) → (before ≡ size → ⊥) →
    Some before ≡ option_map (λ (r : Row). r.size) (get t.messages (c, serial)) →
    resized c before size t.heads ≡ counted_at c serial size t
size_other c serial before size t apart e = cases (get t.messages (c, serial)) e where
  cases : (o : Option Row) → Some before ≡ option_map (λ (r : Row). r.size) o →
      resized c before size t.heads ≡ chosen c size t.heads o
  cases None is = absurd (some_none before is)
  cases (Some r) is = subst (λ n. resized c before size t.heads ≡ cond (nat_eq n size) t.heads
      (resized c n size t.heads)) (same_some before r.size is)
      (ap (λ b. cond b t.heads (resized c before size t.heads))
      (sym (other_size before size apart)))

-- ---- where the counts are those of the rows, a change is made as it is said

heads_made : (c : List ℕ) (serial size : ℕ) (t : Tables) → AreCounted t →
    counted_at c serial size t ≡ counted (with_message size) c (uncounted_message c serial t)
heads_made c serial size t h = cases (get t.messages (c, serial)) refl where
  by_size : (r : Row) (b : Bool) → nat_eq r.size size ≡ b → get t.messages (c, serial) ≡ Some r →
      cond b t.heads (resized c r.size size t.heads) ≡ resized c r.size size t.heads
  by_size r true same is = sym (resized_same c serial t r h is)
      ∙ ap (λ n. resized c r.size n t.heads) (told_same r.size size same)
  by_size r false apart is = refl

  cases : (o : Option Row) → get t.messages (c, serial) ≡ o →
      chosen c size t.heads o ≡ counted (with_message size) c
      (given t.heads (λ (r : Row). counted (without_message r.size) c t.heads) o)
  cases None is = refl
  cases (Some r) is = by_size r (nat_eq r.size size) refl is

-- one that is put with the size that it has leaves the heads as they are
pub heads_kept : (c : List ℕ) (serial size : ℕ) (t : Tables) → AreCounted t →
    Some size ≡ option_map (λ (r : Row). r.size) (get t.messages (c, serial)) →
    counted (with_message size) c (uncounted_message c serial t) ≡ t.heads
heads_kept c serial size t h e = sym (size_same c serial size t e ∙ heads_made c serial size t h)

made_is : (c : List ℕ) (ch : Change) (t : Tables) → AreCounted t → made_by c ch t ≡ write c ch t
made_is c (PutHead head) t h = refl
made_is c (PutMessage m) t h = ap (λ (heads : Heads). record (write c (PutMessage m) t) {
  heads = heads;
}) (heads_made c m.serial m.size t h)
made_is c (DropMessage serial) t h = refl
made_is c (PutLine line) t h = refl
made_is c (DropLine pattern) t h = refl
made_is c (PutMark mark) t h = refl
made_is c (AddNotice notice) t h = refl
made_is c (DropNoticesBelow number) t h = refl
made_is c (PutEnds ends) t h = refl
made_is c (DropEndsTo number) t h = refl

pub made_all_is : (c : List ℕ) (chs : List Change) (t : Tables) → AreCounted t →
    made_by_all c chs t ≡ write_all c chs t
made_all_is c [] t h = refl
made_all_is c (ch ∷ chs) t h = ap (made_by_all c chs) (made_is c ch t h)
    ∙ made_all_is c chs (write c ch t) (counts_stay c (ch ∷ []) t h)
