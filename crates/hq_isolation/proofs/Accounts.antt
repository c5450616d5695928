-- Head rows: what a customer's is after a change of it, and that every other customer's stays.
use Rattle.std.proofs.Common.{◌≡◌, ◌≢◌, ℕ, List, true, false, cond, refl, ap, ◌∙◌, Some, None}
use Rattle.std.proofs.Common.{Option}
use Rattle.std.specs.Prelude.{unwrap_or, option_map, is_some}
use Rattle.std.specs.Cmp.Lexicographic.{nat_list_cmp_total}
use Rattle.std.specs.FinMap.{FinMap, get, insert, get-insert}
use Rattle.std.proofs.lemmas.Map.Lookups.{exact_bytes}
use Rattle.hq_kept.specs.declared.account.Counts.{Counts}
use Rattle.hq_kept.specs.declared.account.Head.{Head}
use Rattle.hq_tables.specs.declared.account.Account.{Account}
use Rattle.hq_tables.specs.declared.change.Change.{Change}
use Rattle.hq_tables.specs.declared.change.Change.TheVariants.{PutHead, PutMessage, DropMessage}
use Rattle.hq_tables.specs.declared.change.Change.TheVariants.{PutLine, DropLine, PutMark}
use Rattle.hq_tables.specs.declared.change.Change.TheVariants.{AddNotice}
use Rattle.hq_tables.specs.declared.change.Change.TheVariants.{DropNoticesBelow, PutEnds}
use Rattle.hq_tables.specs.declared.change.Change.TheVariants.{DropEndsTo}
use Rattle.hq_owned.specs.Owned.{given}
use Rattle.hq_owned.proofs.Parts.{tied_true, tied_false}
use Rattle.hq_tables.specs.Tables.{Tables, Row, text_cmp, opening_account, recounted, account}
use Rattle.hq_tables.specs.Tables.{headed, counted, with_message, without_message, with_line}
use Rattle.hq_tables.specs.Tables.{without_line, uncounted_message, write}

abbrev pub Heads : Type 0
Heads = FinMap text_cmp Account

abbrev pub or_opening : Option Account → Account
or_opening o = unwrap_or o opening_account

same_some : {A : Type 0} (a b : A) → ◌≡◌ {A = Option A} (Some a) (Some b) → a ≡ b
same_some a b e = cc

some_none : {A : Type 0} (a : A) → ◌≡◌ {A = Option A} (Some a) None → ⊥
some_none a e = cc

put_here : (heads : Heads) (c : List ℕ) (v : Account) → account (insert heads c v) c ≡ v
put_here heads c v = ap or_opening (get-insert nat_list_cmp_total heads c v c
    ∙ ap (λ b. cond b (Some v) (get heads c)) (tied_true nat_list_cmp_total c))

put_elsewhere : (heads : Heads) (c d : List ℕ) (v : Account) → d ≢ c →
    account (insert heads c v) d ≡ account heads d
put_elsewhere heads c d v apart = ap or_opening (get-insert nat_list_cmp_total heads c v d
    ∙ ap (λ b. cond b (Some v) (get heads d)) (tied_false exact_bytes d c apart))

pub headed_own : (c : List ℕ) (head : Head) (heads : Heads) →
    account (headed c head heads) c ≡ record (account heads c) { head = head }
unfolding headed
headed_own c head heads = put_here heads c _

pub counted_own : (f : Counts → Counts) (c : List ℕ) (heads : Heads) →
    account (counted f c heads) c ≡ recounted f (account heads c)
unfolding counted
counted_own f c heads = put_here heads c _

pub headed_other : (c d : List ℕ) (head : Head) (heads : Heads) → d ≢ c →
    account (headed c head heads) d ≡ account heads d
unfolding headed
headed_other c d head heads apart = put_elsewhere heads c d _ apart

pub counted_other : (f : Counts → Counts) (c d : List ℕ) (heads : Heads) → d ≢ c →
    account (counted f c heads) d ≡ account heads d
unfolding counted
counted_other f c d heads apart = put_elsewhere heads c d _ apart

-- by whether something is there
pub by_given : {A B : Type 0} (P : B → Type 0) (b : B) (f : A → B) (o : Option A) → P b →
    ((a : A) → P (f a)) → P (given b f o)
by_given P b f None p q = p
by_given P b f (Some a) p q = q a

uncounted_other : (c d : List ℕ) (serial : ℕ) (t : Tables) → d ≢ c →
    account (uncounted_message c serial t) d ≡ account t.heads d
uncounted_other c d serial t apart = by_given (λ heads. account heads d ≡ account t.heads d) t.heads
    _ (get t.messages (c, serial)) refl (λ r. counted_other (without_message r.size) c d t.heads
    apart)

-- every other customer's head row stays
pub account_other : (c d : List ℕ) (ch : Change) (t : Tables) → d ≢ c →
    account (write c ch t).heads d ≡ account t.heads d
account_other c d (PutHead head) t apart = headed_other c d head t.heads apart
account_other c d (PutMessage m) t apart = counted_other (with_message m.size) c d _ apart
    ∙ uncounted_other c d m.serial t apart
account_other c d (DropMessage serial) t apart = uncounted_other c d serial t apart
account_other c d (PutLine line) t apart = by_given (λ heads. account heads d ≡ account t.heads d) _
    _ (get t.lines (c, line.pattern)) (counted_other with_line c d t.heads apart) (λ _. refl)
account_other c d (DropLine pattern) t apart =
    by_given (λ heads. account heads d ≡ account t.heads d) _ _ (get t.lines (c, pattern)) refl
    (λ _. counted_other without_line c d t.heads apart)
account_other c d (PutMark mark) t apart = refl
account_other c d (AddNotice n) t apart = refl
account_other c d (DropNoticesBelow number) t apart = refl
account_other c d (PutEnds ends) t apart = refl
account_other c d (DropEndsTo number) t apart = refl

-- counts change no head
abbrev SameHead : List ℕ → Tables → Heads → Type 0
SameHead c t heads = (account heads c).head ≡ (account t.heads c).head

counted_head : (f : Counts → Counts) (c : List ℕ) (heads : Heads) →
    (account (counted f c heads) c).head ≡ (account heads c).head
counted_head f c heads = ap (λ (a : Account). a.head) (counted_own f c heads)

pub uncounted_head : (c : List ℕ) (serial : ℕ) (t : Tables) →
    SameHead c t (uncounted_message c serial t)
uncounted_head c serial t = by_given (SameHead c t) t.heads _ (get t.messages (c, serial)) refl
    (λ r. counted_head (without_message r.size) c t.heads)

pub message_head : (c : List ℕ) (size serial : ℕ) (t : Tables) →
    SameHead c t (counted (with_message size) c (uncounted_message c serial t))
message_head c size serial t = counted_head (with_message size) c _ ∙ uncounted_head c serial t

pub line_head : {A : Type 0} (c : List ℕ) (f : Counts → Counts) (t : Tables) (o : Option A) →
    SameHead c t (given (counted f c t.heads) (λ _. t.heads) o)
line_head c f t o = by_given (SameHead c t) _ _ o (counted_head f c t.heads) (λ _. refl)

pub no_line_head : {A : Type 0} (c : List ℕ) (f : Counts → Counts) (t : Tables) (o : Option A) →
    SameHead c t (given t.heads (λ _. counted f c t.heads) o)
no_line_head c f t o = by_given (SameHead c t) _ _ o refl (λ _. counted_head f c t.heads)

-- ---- what the code shows of the heads that it leaves

pub is_headed : (c : List ℕ) (heads : Heads) (head : Head) (kept : Account) → kept ≡ account heads c
    → insert heads c (record kept { head = head }) ≡ headed c head heads
unfolding headed
is_headed c heads head kept e = ap (λ (a : Account). insert heads c (record a { head = head })) e

pub is_counted : (f : Counts → Counts) (c : List ℕ) (heads : Heads) (kept left : Account) →
    kept ≡ account heads c → left ≡ recounted f kept → insert heads c left ≡ counted f c heads
unfolding counted
is_counted f c heads kept left e g = ap (insert heads c) (g ∙ ap (recounted f) e)

pub at_size : {B : Type 0} (b : B) (f : ℕ → B) (o : Option Row) (size : ℕ) →
    Some size ≡ option_map (λ (r : Row). r.size) o → f size ≡ given b (λ (r : Row). f r.size) o
at_size b f None size e = absurd (some_none size e)
at_size b f (Some r) size e = ap f (same_some size r.size e)

pub at_some : {A B : Type 0} (b x : B) (o : Option A) → is_some o ≡ true → x ≡ given b (λ _. x) o
at_some b x None e = cc
at_some b x (Some a) e = refl

pub at_none : {A B : Type 0} (b : B) (f : A → B) (o : Option A) → is_some o ≡ false →
    b ≡ given b f o
at_none b f None e = refl
at_none b f (Some a) e = cc

pub is_some_map : {A B : Type 0} (f : A → B) (o : Option A) → is_some (option_map f o) ≡ is_some o
is_some_map f None = refl
is_some_map f (Some a) = refl
