-- The list of heads: what is found in it and put there; and that with the counts of the rows it
-- stays the table of heads, whatever is changed.
use Rattle.std.proofs.Common.{◌≡◌, ℕ, Bool, true, false, not, cond, List, [], ◌∷◌, ◌++◌, filter}
use Rattle.std.proofs.Common.{length, refl, sym, ap, ◌∙◌, subst, Some, None, Option}
use Rattle.std.specs.Prelude.{option_map, is_some, unwrap_or}
use Rattle.std.specs.List as list
use Rattle.std.specs.declared.cmp.Ordering.{Ordering}
use Rattle.std.specs.Ordering.{eq_by_cmp}
use Rattle.std.specs.Cmp.{IsTotalOrder, nat_cmp_total}
use Rattle.std.specs.Cmp.Lexicographic.{nat_list_cmp_total}
use Rattle.std.specs.FinMap.{FinMap, empty, entries, find, get, insert, get-insert, get-entries}
use Rattle.std.specs.FinMap.{same_map}
use Rattle.std.proofs.lemmas.Map.Lookups.{CmpEqualImpliesEq, exact_bytes, exact_unsigned}
use Rattle.std.proofs.lemmas.Map.Views.{tells_apart}
use Rattle.hq_kept.specs.declared.account.Counts.{Counts}
use Rattle.hq_kept.specs.declared.account.Head.{Head}
use Rattle.hq_kept.specs.declared.action.Action.{Action}
use Rattle.hq_owned.specs.Owned.{by_both, part_of, rows_of, given}
use Rattle.hq_owned.specs.Rows.{map_of}
use Rattle.hq_owned.proofs.Cases.{none_some}
use Rattle.hq_owned.proofs.Lists.{get_table, table_put}
use Rattle.hq_tables.specs.declared.account.Account.{Account}
use Rattle.hq_tables.specs.declared.change.Change.{Change}
use Rattle.hq_tables.specs.declared.change.Change.TheVariants.{PutHead, PutMessage, DropMessage}
use Rattle.hq_tables.specs.declared.change.Change.TheVariants.{PutLine, DropLine, PutMark}
use Rattle.hq_tables.specs.declared.change.Change.TheVariants.{AddNotice}
use Rattle.hq_tables.specs.declared.change.Change.TheVariants.{DropNoticesBelow, PutEnds}
use Rattle.hq_tables.specs.declared.change.Change.TheVariants.{DropEndsTo}
use Rattle.hq_tables.specs.Tables.{Tables, Row, text_cmp, opening_head, opening_account, account}
use Rattle.hq_tables.specs.Tables.{recounted, headed, counted, with_message, without_message}
use Rattle.hq_tables.specs.Tables.{with_line, without_line, uncounted_message, write}
use Rattle.hq_tables.specs.Readings.{account_read, counts_told, kept_in, read_tables}
use Rattle.hq_tables.specs.Sound.{AreCounted}
use Rattle.hq_tables.proofs.Customers.{read_own, rows_own}
use Rattle.hq_tables.proofs.Orders.{line_total, line_exact}
use Rattle.hq_isolation.proofs.Accounts.{Heads, or_opening}
use Rattle.hq_isolation.proofs.Counted.{counts_stay}
use Rattle.hq_lists.specs.declared.heads.ListedHead.{ListedHead}
use Rattle.hq_lists.specs.declared.list_rows.ListRows.{ListRows}
use Rattle.hq_lists.specs.Heads.{is_head, heads_listed, head_of, with_some_head, heads_after}
use Rattle.hq_lists.specs.Lists.{counts_in, with_counts, accounts_of, tables_of}
use Rattle.hq_lists.specs.Made.{IsMade}

abbrev Listed : Type 0
Listed = FinMap text_cmp Head

abbrev whose : ListedHead → List ℕ
whose r = r.customer

abbrev what : ListedHead → Head
what r = r.head

pub head_found : (rows : List ListedHead) (c : List ℕ) →
    option_map what (list.find (is_head c) rows) ≡ get (heads_listed rows) c
unfolding is_head
head_found rows c = sym (get_table nat_list_cmp_total exact_bytes whose what rows c)

pub head_put : (rows : List ListedHead) (r : ListedHead) →
    heads_listed (filter (λ x. not (is_head r.customer x)) rows ++ r ∷ []) ≡ insert
    (heads_listed rows) r.customer r.head
unfolding is_head
head_put rows r = table_put nat_list_cmp_total exact_bytes whose what rows r

-- who has a head keeps it
pub head_stays : (c : List ℕ) (heads : Listed) → is_some (get heads c) ≡ true →
    with_some_head c heads ≡ heads
unfolding with_some_head
head_stays c heads some = same_map nat_list_cmp_total exact_bytes _ _ (λ q.
    get-insert nat_list_cmp_total heads c (head_of heads c) q
    ∙ cases q (eq_by_cmp text_cmp q c) refl) where
      own : (o : Option Head) → is_some o ≡ true → Some (unwrap_or o opening_head) ≡ o
      own None e = cc
      own (Some head) e = refl

      cases : (q : List ℕ) (b : Bool) → eq_by_cmp text_cmp q c ≡ b →
          cond b (Some (head_of heads c)) (get heads q) ≡ get heads q
      cases q true e = own (get heads c) some ∙ ap (get heads) (sym (tells_apart exact_bytes q c e))
      cases q false e = refl

-- and who has none gets the opening head
pub head_opens : (c : List ℕ) (heads : Listed) → get heads c ≡ None →
    insert heads c opening_head ≡ with_some_head c heads
unfolding with_some_head
head_opens c heads none = ap (λ o. insert heads c (unwrap_or o opening_head)) (sym none)

-- ---- heads with their counts

pub none_listed : (counts : List ℕ → Counts) → accounts_of counts [] ≡ empty
unfolding map_of
none_listed counts = refl

abbrev with : Counts → Head → Account
with n head = record { head = head; counts = n }

found_with : (counts : List ℕ → Counts) (q : List ℕ) (rows : List ListedHead) →
    option_map (with_counts counts) (list.find (λ r. eq_by_cmp text_cmp q (whose r)) rows) ≡
    option_map (with (counts q)) (option_map what
    (list.find (λ r. eq_by_cmp text_cmp q (whose r)) rows))
found_with counts q [] = refl
found_with counts q (r ∷ rows) = cases (eq_by_cmp text_cmp q r.customer) refl
    (found_with counts q rows) where
      rest : Option ListedHead
      rest = list.find (λ x. eq_by_cmp text_cmp q (whose x)) rows

      cases : (b : Bool) → eq_by_cmp text_cmp q r.customer ≡ b →
          option_map (with_counts counts) rest ≡ option_map (with (counts q)) (option_map what rest)
          → option_map (with_counts counts) (cond b (Some r) rest) ≡ option_map (with (counts q))
          (option_map what (cond b (Some r) rest))
      cases true e later = ap (λ k. Some (with (counts k) r.head))
          (sym (tells_apart exact_bytes q r.customer e))
      cases false e later = later

get_account : (counts : List ℕ → Counts) (rows : List ListedHead) (q : List ℕ) →
    get (accounts_of counts rows) q ≡ option_map (with (counts q)) (get (heads_listed rows) q)
get_account counts rows q =
    get_table nat_list_cmp_total exact_bytes whose (with_counts counts) rows q
    ∙ found_with counts q rows
    ∙ ap (option_map (with (counts q)))
    (sym (get_table nat_list_cmp_total exact_bytes whose what rows q))

abbrev head_in : Option Account → Option Head
head_in o = option_map (λ (a : Account). a.head) o

-- a table has these heads
abbrev pub Fits : Heads → Listed → Type 0
Fits accounts heads = (q : List ℕ) → head_in (get accounts q) ≡ get heads q

pub fits_counts : (counts : List ℕ → Counts) (rows : List ListedHead) →
    Fits (accounts_of counts rows) (heads_listed rows)
fits_counts counts rows q = ap head_in (get_account counts rows q)
    ∙ same (get (heads_listed rows) q)
  where
    same : (o : Option Head) → head_in (option_map (with (counts q)) o) ≡ o
    same None = refl
    same (Some head) = refl

module _ (accounts : Heads) (heads : Listed) (fits : Fits accounts heads) where
  pub account_head : (c : List ℕ) → (account accounts c).head ≡ head_of heads c
  account_head c = same (get accounts c) ∙ ap (λ o. unwrap_or o opening_head) (fits c) where
    same : (o : Option Account) → (or_opening o).head ≡ unwrap_or (head_in o) opening_head
    same None = refl
    same (Some a) = refl

  put_fits : (c : List ℕ) (a : Account) (head : Head) → a.head ≡ head →
      Fits (insert accounts c a) (insert heads c head)
  put_fits c a head e q =
      ap head_in (get-insert nat_list_cmp_total accounts c a q) ∙ cases (eq_by_cmp text_cmp q c)
      ∙ sym (get-insert nat_list_cmp_total heads c head q) where
        cases : (b : Bool) → head_in (cond b (Some a) (get accounts q)) ≡ cond b (Some head)
            (get heads q)
        cases true = ap Some e
        cases false = fits q

  counted_fits : (f : Counts → Counts) (c : List ℕ) →
      Fits (counted f c accounts) (with_some_head c heads)
  unfolding counted with_some_head
  counted_fits f c = put_fits c (recounted f (account accounts c)) (head_of heads c)
      (account_head c)

  counted_stays : (f : Counts → Counts) (c : List ℕ) → is_some (get heads c) ≡ true →
      Fits (counted f c accounts) heads
  counted_stays f c some = subst (Fits (counted f c accounts)) (head_stays c heads some)
      (counted_fits f c)

  headed_fits : (c : List ℕ) (head : Head) → Fits (headed c head accounts) (insert heads c head)
  unfolding headed
  headed_fits c head = put_fits c (record (account accounts c) { head = head }) head refl

-- ---- who has a message or a line has a head

nothing : {A : Type 0} (xs : List A) → length xs ≡ 0 → xs ≡ []
nothing [] e = refl
nothing (x ∷ xs) e = cc

some_row : {K X : Type 0} {R : K → K → Ordering} → IsTotalOrder R → CmpEqualImpliesEq R →
    (c : List ℕ) (m : FinMap (by_both text_cmp R) X) (k : K) (x : X) → get m (c, k) ≡ Some x →
    length (rows_of text_cmp c (entries m)) ≡ 0 → ⊥
some_row {R = R} r re c m k x there none = none_some x
    (sym (get-entries (part_of text_cmp c m) k
    ∙ ap (find R k) (rows_own r re c m ∙ nothing (rows_of text_cmp c (entries m)) none))
    ∙ read_own r re c m k ∙ there)

module _ (t : Tables) (heads : Listed) (counts : AreCounted t) (fits : Fits t.heads heads)
    (c : List ℕ) where
  has_head : (kept_in c t ≡ opening_account.counts → ⊥) → is_some (get heads c) ≡ true
  has_head some = cases (get t.heads c) refl where
    cases : (o : Option Account) → get t.heads c ≡ o → is_some (get heads c) ≡ true
    cases None e = absurd (some (sym (counts c)
        ∙ ap (λ o. (or_opening o).counts) e))
    cases (Some a) e = ap is_some (sym (fits c)) ∙ ap (λ o. is_some (head_in o)) e

  message_head : (serial : ℕ) (r : Row) → get t.messages (c, serial) ≡ Some r →
      is_some (get heads c) ≡ true
  message_head serial r there = has_head (λ e. some_row nat_cmp_total exact_unsigned c t.messages
      serial r there (ap (λ (n : Counts). n.messages) e))

  line_head : (p : _) (a : Action) → get t.lines (c, p) ≡ Some a → is_some (get heads c) ≡ true
  line_head p a there = has_head (λ e. some_row line_total line_exact c t.lines p a there
      (ap (λ (n : Counts). n.lines) e))

  uncounted_fits : (serial : ℕ) → Fits (uncounted_message c serial t) heads
  uncounted_fits serial = cases (get t.messages (c, serial)) refl where
    cases : (o : Option Row) → get t.messages (c, serial) ≡ o → Fits (given t.heads
        (λ (r : Row). counted (without_message r.size) c t.heads) o) heads
    cases None e = fits
    cases (Some r) e = counted_stays t.heads heads fits (without_message r.size) c
        (message_head serial r e)

  fits_after : (ch : Change) → Fits (write c ch t).heads (heads_after c ch heads)
  fits_after (PutHead head) = headed_fits t.heads heads fits c head
  fits_after (PutMessage m) = counted_fits (uncounted_message c m.serial t) heads
      (uncounted_fits m.serial) (with_message m.size) c
  fits_after (DropMessage serial) = uncounted_fits serial
  fits_after (PutLine line) = cases (get t.lines (c, line.pattern)) refl where
    cases : (o : Option Action) → get t.lines (c, line.pattern) ≡ o →
        Fits (given (counted with_line c t.heads) (λ _. t.heads) o) (with_some_head c heads)
    cases None e = counted_fits t.heads heads fits with_line c
    cases (Some a) e = subst (Fits t.heads) (sym (head_stays c heads (line_head line.pattern a e)))
        fits
  fits_after (DropLine pattern) = cases (get t.lines (c, pattern)) refl where
    cases : (o : Option Action) → get t.lines (c, pattern) ≡ o →
        Fits (given t.heads (λ _. counted without_line c t.heads) o) heads
    cases None e = fits
    cases (Some a) e = counted_stays t.heads heads fits without_line c (line_head pattern a e)
  fits_after (PutMark mark) = fits
  fits_after (AddNotice n) = fits
  fits_after (DropNoticesBelow number) = fits
  fits_after (PutEnds ends) = fits
  fits_after (DropEndsTo number) = fits

-- ---- so a change of the lists is a change of the tables

pub written : (c : List ℕ) (ch : Change) (old new : ListRows) → AreCounted (tables_of old) →
    IsMade c ch old new → tables_of new ≡ write c ch (tables_of old)
written c ch old new counts made = λ i. record (made.others i) { heads = heads_are i } where
  t : Tables
  t = write c ch (tables_of old)

  listed : (q : List ℕ) → get (heads_listed new.heads.items) q ≡ head_in (get t.heads q)
  listed q = ap (λ (m : Listed). get m q) made.heads
      ∙ sym (fits_after (tables_of old) (heads_listed old.heads.items) counts
      (fits_counts (counts_in old.messages.items old.lines.items) old.heads.items) c ch q)

  counted_in : (q : List ℕ) →
      counts_in new.messages.items new.lines.items q ≡ (account t.heads q).counts
  counted_in q = ap (λ (x : Tables). kept_in q x) made.others
      ∙ sym (counts_stay c (ch ∷ []) (tables_of old) counts q)

  whole : (o : Option Account) → option_map (with (or_opening o).counts) (head_in o) ≡ o
  whole None = refl
  whole (Some a) = refl

  heads_are : (tables_of new).heads ≡ t.heads
  heads_are = same_map nat_list_cmp_total exact_bytes _ _ (λ q.
      get_account (counts_in new.messages.items new.lines.items) new.heads.items q
      ∙ (λ i. option_map (with (counted_in q i)) (listed q i)) ∙ whole (get t.heads q))

-- what is read of a customer: its head, and the counts of its rows
abbrev own_account : List ℕ → ListRows → Account
own_account c s = record {
  head = head_of (heads_listed s.heads.items) c;
  counts = counts_told (counts_in s.messages.items s.lines.items c);
}

pub read_account : (c : List ℕ) (s : ListRows) → own_account c s ≡ account_read
    (read_tables c (tables_of s))
read_account c s = λ i. record {
  head = (sym (account_head (tables_of s).heads (heads_listed s.heads.items)
      (fits_counts (counts_in s.messages.items s.lines.items) s.heads.items) c)) i;
  counts = counts_told (counts_in s.messages.items s.lines.items c);
}
