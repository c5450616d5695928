-- A change of one customer's rows is that change of the customer's state, and changes no other.
use Rattle.std.proofs.Common.{◌≡◌, ◌≢◌, ℕ, Bool, true, false, cond, List, [], ◌∷◌, sym, refl, ap}
use Rattle.std.proofs.Common.{◌∙◌, Some, None}
use Rattle.std.specs.Prelude.{Option, option_map, nat_le, nat_lt, length, ◌-◌}
use Rattle.std.specs.Ordering.{nat_cmp, eq_by_cmp}
use Rattle.std.specs.Cmp.{nat_cmp_total}
use Rattle.std.specs.Cmp.Lexicographic.{nat_list_cmp_total}
use Rattle.std.specs.FinMap.{FinMap, get, insert, remove, get-insert, get-remove, same_map}
use Rattle.std.proofs.lemmas.Map.Lookups.{exact_unsigned, exact_bytes}
use Rattle.std.proofs.lemmas.Map.Views.{tells_apart}
use Rattle.std.proofs.lemmas.Bool.{both_ways}
use Rattle.hq_tables.specs.declared.change.Change.{Change}
use Rattle.hq_tables.specs.declared.change.Change.TheVariants.{PutHead, PutMessage, DropMessage}
use Rattle.hq_tables.specs.declared.change.Change.TheVariants.{PutLine, DropLine, PutMark}
use Rattle.hq_tables.specs.declared.change.Change.TheVariants.{AddNotice}
use Rattle.hq_tables.specs.declared.change.Change.TheVariants.{DropNoticesBelow, PutEnds}
use Rattle.hq_tables.specs.declared.change.Change.TheVariants.{DropEndsTo}
use Rattle.hq_kept.specs.declared.message.Message.{Message}
use Rattle.hq_kept.specs.declared.message.Pending.{Pending}
use Rattle.hq_owned.specs.Owned.{part_of, map_values}
use Rattle.hq_tables.specs.Tables.{text_cmp, message_cmp, Tables, Row, with_line, without_line}
use Rattle.hq_tables.specs.Tables.{change, change_all, write, write_all, row_of, message_of}
use Rattle.hq_tables.specs.Tables.{reason_of, give_reason, pending_of, joined, deal, own, noted_of}
use Rattle.hq_tables.specs.Tables.{Past, end_cmp, add_ends, add_rows, last_before}
use Rattle.hq_kept.specs.declared.outcome.Ended.{Ended}
use Rattle.hq_owned.proofs.Parts.{part_insert, part_remove, tied_true, get-map_values}
use Rattle.hq_tables.proofs.Customers.{put_own, put_other, drop_own, drop_other, sweep_own}
use Rattle.hq_tables.proofs.Customers.{sweep_other}
use Rattle.hq_isolation.proofs.Accounts.{headed_own, message_head, uncounted_head, line_head}
use Rattle.hq_isolation.proofs.Accounts.{no_line_head, account_other}
use Rattle.hq_tables.proofs.Orders.{line_total, line_exact, newest_total, newest_exact}
use Rattle.hq_isolation.proofs.Reasons.{Holds, reason_same, reason_other_message}
use Rattle.hq_isolation.proofs.Reasons.{reason_other_owner}
use Rattle.hq_isolation.proofs.Dealt.{Recipients, pending_same, pending_other_message}
use Rattle.hq_isolation.proofs.Dealt.{pending_other_owner}

abbrev Messages : Type 0
Messages = FinMap message_cmp Row

abbrev queue : List ℕ → Messages → Recipients → Holds → FinMap nat_cmp Message
queue c ms rs hs = map_values (joined c rs hs) (part_of text_cmp c ms)

-- by cases on whether the keys tie
at_tie : (b : Bool) (q k : ℕ) (f g : ℕ → Row → Message) (row : Row) (o : Option Row)
    (new : Option Message) → (b ≡ true → option_map (f q) (Some row) ≡ new) →
    (b ≡ false → f q ≡ g q) → option_map (f q) (cond b (Some row) o) ≡ cond b new
    (option_map (g q) o)
at_tie true q k f g row o new same other = same refl
at_tie false q k f g row o new same other = ap (λ h. option_map h o) (other refl)

apart_numbers : (q k : ℕ) → eq_by_cmp nat_cmp q k ≡ false → q ≢ k
apart_numbers q k h e = both_ways _ h (ap (eq_by_cmp nat_cmp q) (sym e) ∙ tied_true nat_cmp_total q)

-- a message put into the rows is put into the customer's queue
queue_put : (c : List ℕ) (ms : Messages) (rs : Recipients) (hs : Holds) (m : Message) →
    queue c (insert ms (c, m.serial) (row_of m)) (deal c m.serial m.pending rs)
    (give_reason c m.serial m.reason hs) ≡ insert (queue c ms rs hs) m.serial m
queue_put c ms rs hs m = same_map nat_cmp_total exact_unsigned _ _ (λ q.
    let dealt = deal c m.serial m.pending rs in
    let kept = give_reason c m.serial m.reason hs in
    get-map_values nat_cmp (joined c dealt kept) exact_unsigned
    (part_of text_cmp c (insert ms (c, m.serial) (row_of m))) q
    ∙ ap (λ t. option_map (joined c dealt kept q) (get t q))
    (part_insert nat_list_cmp_total nat_cmp_total exact_bytes exact_unsigned c ms m.serial
    (row_of m))
    ∙ ap (option_map (joined c dealt kept q))
    (get-insert nat_cmp_total (part_of text_cmp c ms) m.serial (row_of m) q)
    ∙ at_tie (eq_by_cmp nat_cmp q m.serial) q m.serial (joined c dealt kept) (joined c rs hs)
    (row_of m) (get (part_of text_cmp c ms) q) (Some m)
    (λ h. ap (λ k. Some (message_of k (row_of m) (reason_of c k kept) (pending_of c k dealt)))
    (tells_apart exact_unsigned q m.serial h) ∙
    (λ i. Some (message_of m.serial (row_of m) (reason_same c m.serial m.reason hs i)
    (pending_same c m.serial m.pending rs i))))
    (λ h. λ i r. message_of q r
    (reason_other_message c m.serial q m.reason hs (apart_numbers q m.serial h) i)
    (pending_other_message c m.serial q m.pending rs (apart_numbers q m.serial h) i))
    ∙ sym (get-insert nat_cmp_total (queue c ms rs hs) m.serial m q
    ∙ ap (cond (eq_by_cmp nat_cmp q m.serial) (Some m))
    (get-map_values nat_cmp (joined c rs hs) exact_unsigned (part_of text_cmp c ms) q)))

gone : (b : Bool) (q : ℕ) (f g : ℕ → Row → Message) (o : Option Row) → (b ≡ false → f q ≡ g q) →
    option_map (f q) (cond b None o) ≡ cond b None (option_map (g q) o)
gone true q f g o other = refl
gone false q f g o other = ap (λ h. option_map h o) (other refl)

-- a message dropped from the rows is dropped from the queue
queue_drop : (c : List ℕ) (ms : Messages) (rs : Recipients) (hs : Holds) (serial : ℕ) →
    queue c (remove ms (c, serial)) (deal c serial [] rs) (give_reason c serial [] hs) ≡ remove
    (queue c ms rs hs) serial
queue_drop c ms rs hs serial = same_map nat_cmp_total exact_unsigned _ _ (λ q.
    let dealt = deal c serial [] rs in
    let kept = give_reason c serial [] hs in
    get-map_values nat_cmp (joined c dealt kept) exact_unsigned
    (part_of text_cmp c (remove ms (c, serial))) q
    ∙ ap (λ t. option_map (joined c dealt kept q) (get t q))
    (part_remove nat_list_cmp_total nat_cmp_total exact_bytes exact_unsigned c ms serial)
    ∙ ap (option_map (joined c dealt kept q))
    (get-remove nat_cmp_total (part_of text_cmp c ms) serial q)
    ∙ gone (eq_by_cmp nat_cmp q serial) q (joined c dealt kept) (joined c rs hs)
    (get (part_of text_cmp c ms) q)
    (λ h. λ i r. message_of q r (reason_other_message c serial q [] hs (apart_numbers q serial h) i)
    (pending_other_message c serial q [] rs (apart_numbers q serial h) i))
    ∙ sym (get-remove nat_cmp_total (queue c ms rs hs) serial q
    ∙ ap (cond (eq_by_cmp nat_cmp q serial) None)
    (get-map_values nat_cmp (joined c rs hs) exact_unsigned (part_of text_cmp c ms) q)))

-- another customer's queue stays
queue_other : (c d : List ℕ) (ms new : Messages) (rs : Recipients) (hs : Holds) (serial : ℕ)
    (ps : List Pending) (reason : List ℕ) → d ≢ c → part_of text_cmp d new ≡ part_of text_cmp d ms
    → queue d new (deal c serial ps rs) (give_reason c serial reason hs) ≡ queue d ms rs hs
queue_other c d ms new rs hs serial ps reason apart e =
    λ i. map_values (λ k r. message_of k r (reason_other_owner c d serial k reason hs apart i)
    (pending_other_owner c d serial k ps rs apart i)) (e i)

-- ends that are added, of the customer, and of another
ends_own : (c : List ℕ) (at last : ℕ) (es : List Ended) (m : FinMap end_cmp Past) →
    part_of text_cmp c (add_rows c at last es m) ≡ add_ends at last es (part_of text_cmp c m)
ends_own c at last [] m = refl
ends_own c at last (e ∷ es) m = ends_own c at last es _
    ∙ ap (add_ends at last es) (put_own newest_total newest_exact c m (last - length es) _)

ends_other : (c d : List ℕ) (at last : ℕ) (es : List Ended) (m : FinMap end_cmp Past) → d ≢ c →
    part_of text_cmp d (add_rows c at last es m) ≡ part_of text_cmp d m
ends_other c d at last [] m apart = refl
ends_other c d at last (e ∷ es) m apart = ends_other c d at last es _ apart
    ∙ put_other newest_total newest_exact c d m (last - length es) _ apart

-- each change, for the customer who makes it
pub own_write : (c : List ℕ) (ch : Change) (t : Tables) → own c (write c ch t) ≡ change ch (own c t)
own_write c (PutHead head) t = λ i. record (own c t) { head = (headed_own c head t.heads i).head }
own_write c (PutMessage m) t = λ i. record (own c t) {
  head = message_head c m.size m.serial t i;
  messages = queue_put c t.messages t.recipients t.holds m i;
}
own_write c (DropMessage serial) t = λ i. record (own c t) {
  head = uncounted_head c serial t i;
  messages = queue_drop c t.messages t.recipients t.holds serial i;
}
own_write c (PutLine line) t = λ i. record (own c t) {
  head = line_head c with_line t (get t.lines (c, line.pattern)) i;
  lines = put_own line_total line_exact c t.lines line.pattern line.action i;
}
own_write c (PutMark mark) t = λ i. record (own c t) {
  marks = put_own nat_list_cmp_total exact_bytes c t.marks mark.label mark i;
}
own_write c (AddNotice n) t = λ i. record (own c t) {
  notices = put_own nat_cmp_total exact_unsigned c t.notices n.number (noted_of n) i;
}
own_write c (DropNoticesBelow number) t = λ i. record (own c t) {
  notices = sweep_own nat_cmp_total exact_unsigned c t.notices (nat_le number) i;
}
own_write c (PutEnds ends) t = λ i. record (own c t) {
  ends = (ends_own c ends.at ends.last ends.ended _
      ∙ ap (add_ends ends.at ends.last ends.ended) (sweep_own newest_total newest_exact c t.ends
      (λ n. nat_le n (last_before ends)))) i;
}
own_write c (DropEndsTo number) t = λ i. record (own c t) {
  ends = sweep_own newest_total newest_exact c t.ends (nat_lt number) i;
}
own_write c (DropLine pattern) t = λ i. record (own c t) {
  head = no_line_head c without_line t (get t.lines (c, pattern)) i;
  lines = drop_own line_total line_exact c t.lines pattern i;
}

-- and for each other customer: head and rows
other_rows : (c d : List ℕ) (ch : Change) (t : Tables) → d ≢ c →
    record (own d t) {
      messages = (own d (write c ch t)).messages;
      lines = (own d (write c ch t)).lines;
      marks = (own d (write c ch t)).marks;
      notices = (own d (write c ch t)).notices;
      ends = (own d (write c ch t)).ends;
    } ≡ own d t
other_rows c d (PutHead head) t apart = refl
other_rows c d (PutMessage m) t apart = λ i. record (own d t) {
  messages =
      queue_other c d t.messages _ t.recipients t.holds m.serial m.pending m.reason apart
      (put_other nat_cmp_total exact_unsigned c d t.messages m.serial (row_of m) apart) i;
}
other_rows c d (DropMessage serial) t apart = λ i. record (own d t) {
  messages =
      queue_other c d t.messages _ t.recipients t.holds serial [] [] apart
      (drop_other nat_cmp_total exact_unsigned c d t.messages serial apart) i;
}
other_rows c d (PutLine line) t apart = λ i. record (own d t) {
  lines = put_other line_total line_exact c d t.lines line.pattern line.action apart i;
}
other_rows c d (PutMark mark) t apart = λ i. record (own d t) {
  marks = put_other nat_list_cmp_total exact_bytes c d t.marks mark.label mark apart i;
}
other_rows c d (AddNotice n) t apart = λ i. record (own d t) {
  notices = put_other nat_cmp_total exact_unsigned c d t.notices n.number (noted_of n) apart i;
}
other_rows c d (DropNoticesBelow number) t apart = λ i. record (own d t) {
  notices = sweep_other nat_cmp_total exact_unsigned c d t.notices (nat_le number) apart i;
}
other_rows c d (PutEnds ends) t apart = λ i. record (own d t) {
  ends = (ends_other c d ends.at ends.last ends.ended _ apart
      ∙ sweep_other newest_total newest_exact c d t.ends (λ n. nat_le n (last_before ends)) apart)
      i;
}
other_rows c d (DropEndsTo number) t apart = λ i. record (own d t) {
  ends = sweep_other newest_total newest_exact c d t.ends (nat_lt number) apart i;
}
other_rows c d (DropLine pattern) t apart = λ i. record (own d t) {
  lines = drop_other line_total line_exact c d t.lines pattern apart i;
}

pub other_write : (c d : List ℕ) (ch : Change) (t : Tables) → d ≢ c → own d (write c ch t) ≡ own d t
other_write c d ch t apart = (λ i. record (own d (write c ch t)) {
  head = (account_other c d ch t apart i).head;
}) ∙ other_rows c d ch t apart

-- any list of changes
pub own_write_all : (c : List ℕ) (chs : List Change) (t : Tables) →
    own c (write_all c chs t) ≡ change_all chs (own c t)
own_write_all c [] t = refl
own_write_all c (ch ∷ chs) t = own_write_all c chs (write c ch t)
    ∙ ap (change_all chs) (own_write c ch t)

pub other_write_all : (c d : List ℕ) (chs : List Change) (t : Tables) → d ≢ c →
    own d (write_all c chs t) ≡ own d t
other_write_all c d [] t apart = refl
other_write_all c d (ch ∷ chs) t apart = other_write_all c d chs (write c ch t) apart
    ∙ other_write c d ch t apart
