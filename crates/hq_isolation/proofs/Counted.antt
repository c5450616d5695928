-- The counts in the head rows follow the rows, whatever is changed: what is kept in a head row is
-- what counting finds.
use Rattle.std.proofs.Common.{◌≡◌, ◌≢◌, ⊎_elim, ℕ, ◌+◌, ◌-◌, List, [], ◌∷◌, map, length, sym, refl}
use Rattle.std.proofs.Common.{ap, ◌∙◌, subst, Some, None, Option, arith}
use Rattle.std.specs.List.{sum_by}
use Rattle.std.proofs.lemmas.List.Sums.{sum_by-cons}
use Rattle.std.specs.declared.cmp.Ordering.{Ordering}
use Rattle.std.specs.Ordering.{nat_cmp}
use Rattle.std.specs.Cmp.{nat_cmp_total}
use Rattle.std.proofs.lemmas.Map.Lookups.{exact_unsigned}
use Rattle.std.specs.FinMap.{FinMap, entries, values, get, insert, remove}
use Rattle.hq_kept.specs.declared.account.Counts.{Counts}
use Rattle.hq_tables.specs.declared.account.Account.{Account}
use Rattle.hq_tables.specs.declared.change.Change.{Change}
use Rattle.hq_tables.specs.declared.change.Change.TheVariants.{PutHead, PutMessage, DropMessage}
use Rattle.hq_tables.specs.declared.change.Change.TheVariants.{PutLine, DropLine, PutMark}
use Rattle.hq_tables.specs.declared.change.Change.TheVariants.{AddNotice}
use Rattle.hq_tables.specs.declared.change.Change.TheVariants.{DropNoticesBelow, PutEnds}
use Rattle.hq_tables.specs.declared.change.Change.TheVariants.{DropEndsTo}
use Rattle.hq_owned.specs.Owned.{part_of, given}
use Rattle.hq_owned.proofs.Totals.{total_put, total_drop, many_put}
use Rattle.hq_tables.specs.Tables.{Tables, Row, text_cmp, line_cmp, row_of, account, counted}
use Rattle.hq_tables.specs.Tables.{with_message, without_message, with_line, without_line}
use Rattle.hq_tables.specs.Tables.{uncounted_message, write, write_all}
use Rattle.hq_tables.specs.Readings.{kept_in, counts_told, read_tables}
use Rattle.hq_kept.specs.declared.action.Action.{Action}
use Rattle.hq_kept.specs.declared.pattern.Class.{Class}
use Rattle.hq_tables.specs.Sound.{AreCounted}
use Rattle.hq_tables.proofs.Customers.{cases_name, read_own, rows_own, put_own, put_other, drop_own}
use Rattle.hq_tables.proofs.Customers.{drop_other}
use Rattle.hq_isolation.proofs.Accounts.{headed_own, counted_own, account_other}
use Rattle.hq_tables.proofs.Orders.{line_total, line_exact}
use Rattle.hq_owned.proofs.Mapped.{same_sum}

-- ---- counts as sums over a customer's part

abbrev many : {K X : Type 0} {R : K → K → Ordering} → FinMap R X → ℕ
many {X = X} m = sum_by (λ (x : X). 1) (values m)

many_rows : {K X : Type 0} (es : List (K × X)) →
    length es ≡ sum_by (λ (x : X). 1) (map (λ (e : K × X). e.1) es)
many_rows [] = refl
many_rows {K = K} {X = X} (e ∷ es) =
    let rest = many_rows es in
    let next = sum_by-cons (λ (x : X). 1) e.1 (map (λ (x : K × X). x.1) es) in
    omega arith

abbrev Messages : Type 0
Messages = FinMap nat_cmp Row

abbrev Lines : Type 0
Lines = FinMap line_cmp Action

abbrev tally : Messages → Lines → Counts
tally ms ls = record {
  messages = many ms;
  bytes = sum_by (λ (r : Row). r.size) (values ms);
  lines = many ls;
}

-- what counting finds
tally_is : (c : List ℕ) (t : Tables) →
    kept_in c t ≡ tally (part_of text_cmp c t.messages) (part_of text_cmp c t.lines)
tally_is c t = λ i. record {
  messages = (ap length (sym (rows_own nat_cmp_total exact_unsigned c t.messages))
      ∙ many_rows (entries (part_of text_cmp c t.messages))) i;
  bytes = (ap (sum_by (λ (e : ℕ × Row). e.1.size))
      (sym (rows_own nat_cmp_total exact_unsigned c t.messages)) ∙ sym
      (same_sum (λ (e : ℕ × Row). e.1) (λ (r : Row). r.size)
      (entries (part_of text_cmp c t.messages)))) i;
  lines = (ap length (sym (rows_own line_total line_exact c t.lines))
      ∙ many_rows (entries (part_of text_cmp c t.lines))) i;
}

-- ---- each change

abbrev lost : Option Row → Counts → Counts
lost o n = given n (λ (r : Row). without_message r.size n) o

split : (o : Option Row) (n : Counts) →
    record {
      messages = given n.messages (λ (r : Row). n.messages - 1) o;
      bytes = given n.bytes (λ (r : Row). n.bytes - r.size) o;
      lines = n.lines;
    } ≡ lost o n
split None n = refl
split (Some r) n = refl

tally_put : (ms : Messages) (ls : Lines) (k : ℕ) (row : Row) →
    tally (insert ms k row) ls ≡ with_message row.size (lost (get ms k) (tally ms ls))
tally_put ms ls k row =
    (λ i. record {
      messages = total_put nat_cmp_total exact_unsigned (λ (r : Row). 1) ms k row i;
      bytes = total_put nat_cmp_total exact_unsigned (λ (r : Row). r.size) ms k row i;
      lines = many ls;
    })
    ∙ ap (with_message row.size) (split (get ms k) (tally ms ls))

tally_drop : (ms : Messages) (ls : Lines) (k : ℕ) →
    tally (remove ms k) ls ≡ lost (get ms k) (tally ms ls)
tally_drop ms ls k =
    (λ i. record {
      messages = total_drop nat_cmp_total exact_unsigned (λ (r : Row). 1) ms k i;
      bytes = total_drop nat_cmp_total exact_unsigned (λ (r : Row). r.size) ms k i;
      lines = many ls;
    })
    ∙ split (get ms k) (tally ms ls)

tally_line : (ms : Messages) (ls : Lines) (k : Class × List ℕ) (a : Action) →
    tally ms (insert ls k a) ≡ given (with_line (tally ms ls)) (λ _. tally ms ls) (get ls k)
tally_line ms ls k a = (λ i. record (tally ms ls) {
  lines = many_put line_total line_exact ls k a i;
}) ∙ cases (get ls k) where
  cases : (o : Option Action) → record (tally ms ls) {
    lines = given (many ls + 1) (λ _. many ls) o;
  } ≡ given (with_line (tally ms ls)) (λ _. tally ms ls) o
  cases None = refl
  cases (Some o) = refl

tally_no_line : (ms : Messages) (ls : Lines) (k : Class × List ℕ) →
    tally ms (remove ls k) ≡ given (tally ms ls) (λ _. without_line (tally ms ls)) (get ls k)
tally_no_line ms ls k = (λ i. record (tally ms ls) {
  lines = total_drop line_total line_exact (λ (x : Action). 1) ls k i;
}) ∙ cases (get ls k) where
  cases : (o : Option Action) → record (tally ms ls) {
    lines = given (many ls) (λ _. many ls - 1) o;
  } ≡ given (tally ms ls) (λ _. without_line (tally ms ls))
      o
  cases None = refl
  cases (Some o) = refl

-- what a change makes of counts
abbrev pub after : List ℕ → Change → Tables → Counts → Counts
after c (PutMessage m) t n = with_message m.size (lost (get t.messages (c, m.serial)) n)
after c (DropMessage serial) t n = lost (get t.messages (c, serial)) n
after c (PutLine line) t n = given (with_line n) (λ _. n) (get t.lines (c, line.pattern))
after c (DropLine pattern) t n = given n (λ _. without_line n) (get t.lines (c, pattern))
after c _ t n = n

-- of those found by counting
pub found_after : (c : List ℕ) (ch : Change) (t : Tables) →
    kept_in c (write c ch t) ≡ after c ch t (kept_in c t)
found_after c ch t = tally_is c (write c ch t) ∙ each ch
    ∙ ap (after c ch t) (sym (tally_is c t)) where
      n : Counts
      n = tally (part_of text_cmp c t.messages) (part_of text_cmp c t.lines)

      ms : Messages
      ms = part_of text_cmp c t.messages

      ls : Lines
      ls = part_of text_cmp c t.lines

      each : (x : Change) → tally (part_of text_cmp c (write c x t).messages)
          (part_of text_cmp c (write c x t).lines) ≡ after c x t n
      each (PutMessage m) = ap (λ x. tally x ls)
          (put_own nat_cmp_total exact_unsigned c t.messages m.serial (row_of m))
          ∙ tally_put ms ls m.serial (row_of m) ∙ ap (λ o. with_message m.size (lost o n))
          (read_own nat_cmp_total exact_unsigned c t.messages m.serial)
      each (DropMessage k) = ap (λ x. tally x ls)
          (drop_own nat_cmp_total exact_unsigned c t.messages k)
          ∙ tally_drop ms ls k ∙ ap (λ o. lost o n)
          (read_own nat_cmp_total exact_unsigned c t.messages k)
      each (PutLine line) =
          ap (tally ms) (put_own line_total line_exact c t.lines line.pattern line.action)
          ∙ tally_line ms ls line.pattern line.action
          ∙ ap (given (with_line n) (λ _. n))
          (read_own line_total line_exact c t.lines line.pattern)
      each (DropLine pattern) =
          ap (tally ms) (drop_own line_total line_exact c t.lines pattern)
          ∙ tally_no_line ms ls pattern
          ∙ ap (given n (λ _. without_line n)) (read_own line_total line_exact c t.lines pattern)
      each _ = refl

-- of those kept in the head row
abbrev kept_at : FinMap text_cmp Account → List ℕ → Counts
kept_at heads c = (account heads c).counts

at_counted : (f : Counts → Counts) (c : List ℕ) (heads : FinMap text_cmp Account) →
    kept_at (counted f c heads) c ≡ f (kept_at heads c)
at_counted f c heads = ap (λ (a : Account). a.counts) (counted_own f c heads)

kept_uncounted : (c : List ℕ) (serial : ℕ) (t : Tables) →
    kept_at (uncounted_message c serial t) c ≡ lost (get t.messages (c, serial)) (kept_at t.heads c)
kept_uncounted c serial t = cases (get t.messages (c, serial)) where
  cases : (o : Option Row) → kept_at (given t.heads
      (λ (r : Row). counted (without_message r.size) c t.heads) o) c ≡ lost o (kept_at t.heads c)
  cases None = refl
  cases (Some r) = at_counted (without_message r.size) c t.heads

kept_after : (c : List ℕ) (ch : Change) (t : Tables) →
    kept_at (write c ch t).heads c ≡ after c ch t (kept_at t.heads c)
kept_after c (PutHead head) t = ap (λ (a : Account). a.counts) (headed_own c head t.heads)
kept_after c (PutMessage m) t = at_counted (with_message m.size) c (uncounted_message c m.serial t)
    ∙ ap (with_message m.size) (kept_uncounted c m.serial t)
kept_after c (DropMessage serial) t = kept_uncounted c serial t
kept_after c (PutLine line) t = cases (get t.lines (c, line.pattern)) where
  cases : (o : Option Action) → kept_at (given (counted with_line c t.heads) (λ _. t.heads) o) c ≡
      given (with_line (kept_at t.heads c)) (λ _. kept_at t.heads c) o
  cases None = at_counted with_line c t.heads
  cases (Some o) = refl
kept_after c (DropLine pattern) t = cases (get t.lines (c, pattern)) where
  cases : (o : Option Action) → kept_at (given t.heads (λ _. counted without_line c t.heads) o) c ≡
      given (kept_at t.heads c) (λ _. without_line (kept_at t.heads c)) o
  cases None = refl
  cases (Some o) = at_counted without_line c t.heads
kept_after c (PutMark mark) t = refl
kept_after c (AddNotice n) t = refl
kept_after c (DropNoticesBelow number) t = refl
kept_after c (PutEnds ends) t = refl
kept_after c (DropEndsTo number) t = refl

-- every other customer's rows stay
pub found_other : (c d : List ℕ) (ch : Change) (t : Tables) → d ≢ c →
    kept_in d (write c ch t) ≡ kept_in d t
found_other c d ch t apart = tally_is d (write c ch t) ∙ each ch ∙ sym (tally_is d t) where
  each : (ch : Change) → tally (part_of text_cmp d (write c ch t).messages)
      (part_of text_cmp d (write c ch t).lines) ≡ tally (part_of text_cmp d t.messages)
      (part_of text_cmp d t.lines)
  each (PutMessage m) = ap (λ x. tally x (part_of text_cmp d t.lines))
      (put_other nat_cmp_total exact_unsigned c d t.messages m.serial (row_of m) apart)
  each (DropMessage k) = ap (λ x. tally x (part_of text_cmp d t.lines))
      (drop_other nat_cmp_total exact_unsigned c d t.messages k apart)
  each (PutLine line) = ap (tally (part_of text_cmp d t.messages))
      (put_other line_total line_exact c d t.lines line.pattern line.action apart)
  each (DropLine pattern) = ap (tally (part_of text_cmp d t.messages))
      (drop_other line_total line_exact c d t.lines pattern apart)
  each _ = refl

-- ---- so they stay the same, through any changes

counts_follow : (c : List ℕ) (ch : Change) (t : Tables) → AreCounted t → AreCounted (write c ch t)
counts_follow c ch t h d = ⊎_elim
    (λ (same : d ≡ c). subst (λ x. kept_at (write c ch t).heads x ≡ kept_in x (write c ch t))
    (sym same) (kept_after c ch t ∙ ap (after c ch t) (h c) ∙ sym (found_after c ch t)))
    (λ (apart : d ≢ c). ap (λ (a : Account). a.counts) (account_other c d ch t apart) ∙ h d
    ∙ sym (found_other c d ch t apart))
    (cases_name d c)

pub counts_stay : (c : List ℕ) (chs : List Change) (t : Tables) → AreCounted t →
    AreCounted (write_all c chs t)
counts_stay c [] t h = h
counts_stay c (ch ∷ chs) t h = counts_stay c chs (write c ch t) (counts_follow c ch t h)

-- what is read of a customer's counts stands in its head row
pub counts_kept : (t : Tables) → AreCounted t → (c : List ℕ) →
    (read_tables c t).counts ≡ counts_told (account t.heads c).counts
counts_kept t h c = ap counts_told (sym (h c))
