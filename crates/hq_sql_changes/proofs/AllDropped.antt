-- A deletion of all messages of a customer that is made in sets is the deletion of each by itself,
-- and no message is counted behind it.
use Rattle.std.proofs.Common.{◌≡◌, ◌≢◌, ⊎_elim, ℕ, not, cond, List, [], ◌∷◌, ◌++◌}
use Rattle.std.proofs.Common.{Option, Some, None, map, length, take, refl, sym, ap, ◌∙◌, subst}
use Rattle.std.proofs.Common.{drop}
use Rattle.std.specs.Prelude.{unwrap_or}
use Rattle.std.proofs.lemmas.List.{take-append-drop}
use Rattle.std.specs.Ordering.{nat_cmp}
use Rattle.std.specs.Cmp.{nat_cmp_total}
use Rattle.std.specs.Cmp.Lexicographic.{nat_list_cmp_total}
use Rattle.std.specs.FinMap.{FinMap, entries, find, get, insert, retain_keys, get-entries}
use Rattle.std.specs.FinMap.{get-insert, get-retain_keys}
use Rattle.std.proofs.lemmas.Map.Lookups.{exact_bytes, exact_unsigned}
use Rattle.hq_kept.specs.declared.account.Counts.{Counts}
use Rattle.hq_kept.specs.declared.message.Message.{Message}
use Rattle.hq_owned.specs.Owned.{rows_of, part_of, given}
use Rattle.hq_owned.proofs.Cases.{none_some}
use Rattle.hq_owned.proofs.Parts.{entries_part, get_part, part_retain_all, tied_true, tied_false}
use Rattle.hq_tables.proofs.Customers.{cases_name}
use Rattle.hq_tables.proofs.Orders.{message_exact}
use Rattle.hq_tables.specs.declared.account.Account.{Account}
use Rattle.hq_tables.specs.declared.change.Change.{Change}
use Rattle.hq_tables.specs.declared.change.Change.TheVariants.{DropMessage}
use Rattle.hq_tables.specs.Readings.{kept_in, kept_of, messages_in}
use Rattle.hq_tables.specs.Sound.{AreCounted, Sound}
use Rattle.hq_tables.specs.Tables.{Tables, Row, text_cmp, account, opening_account, counted, joined}
use Rattle.hq_tables.specs.Tables.{recounted, write, write_all, without_message}
use Rattle.hq_isolation.proofs.Counted.{counts_stay}
use Rattle.hq_rules.specs.Queues as queue
use Rattle.hq_sql_recipients.proofs.InPlace.{put_same}
use Rattle.hq_sql_changes.specs.Dropped.{emptied, emptied_head, all_dropped, no_messages}
use Rattle.hq_sql_changes.proofs.DroppedRows.{rows_left, reasons_left, recipients_left, others}
use Rattle.hq_sql_changes.proofs.DroppedRows.{rows_gone, reasons_gone, recipients_gone}
use Rattle.hq_sql_changes.proofs.EachMoved.{Messages, write_all-append}
use Rattle.hq_sql_changes.proofs.Recounted.{put_twice}

abbrev Heads : Type 0
Heads = FinMap text_cmp Account

abbrev size : ℕ × Row → ℕ
size e = e.1.size

-- ---- how many are kept where no message of a customer stands

module _ (c : List ℕ) (rows : Messages) where
  abbrev left : Messages
  left = retain_keys rows (others c)

  own_none : (k : ℕ) → get left (c, k) ≡ None
  own_none k = get-retain_keys rows (others c) (c, k)
      (λ x e. ap (others c) (sym (message_exact (c, k) x e)))
      ∙ ap (λ b. cond (not b) (get rows (c, k)) None) (tied_true nat_list_cmp_total c)

  none_own : rows_of text_cmp c (entries left) ≡ []
  none_own = sym (entries_part nat_cmp nat_list_cmp_total c left)
      ∙ go (entries (part_of text_cmp c left)) refl
    where
      go : (es : List (ℕ × Row)) → entries (part_of text_cmp c left) ≡ es → es ≡ []
      go [] e = refl
      go (x ∷ es) e = absurd (none_some x.1 (sym (own_none x.0)
          ∙ sym (get_part nat_cmp nat_list_cmp_total c left x.0)
          ∙ get-entries (part_of text_cmp c left) x.0 ∙ ap (find nat_cmp x.0) e
          ∙ ap (λ b. cond b (Some x.1) (find nat_cmp x.0 es)) (tied_true nat_cmp_total x.0)))

  other_same : (d : List ℕ) → d ≢ c →
      rows_of text_cmp d (entries left) ≡ rows_of text_cmp d (entries rows)
  other_same d apart = sym (entries_part nat_cmp nat_list_cmp_total d left)
      ∙ ap entries (part_retain_all nat_list_cmp_total nat_cmp_total exact_bytes exact_unsigned d
      rows (others c) (λ k. ap not (tied_false exact_bytes c d (λ same. apart (sym same)))))
      ∙ entries_part nat_cmp nat_list_cmp_total d rows

-- ---- the counts follow

at_own : (c : List ℕ) (heads : Heads) (a : Account) → account (insert heads c a) c ≡ a
at_own c heads a = ap (λ o. unwrap_or o opening_account)
    (get-insert nat_list_cmp_total heads c a c
    ∙ ap (λ b. cond b (Some a) (get heads c)) (tied_true nat_list_cmp_total c))

own_counts : (c : List ℕ) (heads : Heads) →
    (account (emptied_head c heads) c).counts ≡ no_messages (account heads c).counts
own_counts c heads = go (get heads c) refl
  where
    go : (o : Option Account) → get heads c ≡ o →
        (account (given heads (λ (a : Account). insert heads c (emptied a)) o) c).counts ≡
        no_messages (unwrap_or o opening_account).counts
    go None e = ap (λ o. (unwrap_or o opening_account).counts) e
    go (Some a) e = ap (λ (x : Account). x.counts) (at_own c heads (emptied a))

other_account : (c d : List ℕ) (heads : Heads) → d ≢ c →
    account (emptied_head c heads) d ≡ account heads d
other_account c d heads apart = go (get heads c)
  where
    go : (o : Option Account) → account (given heads
        (λ (a : Account). insert heads c (emptied a)) o) d ≡ account heads d
    go None = refl
    go (Some a) = ap (λ o. unwrap_or o opening_account)
        (get-insert nat_list_cmp_total heads c (emptied a) d
        ∙ ap (λ b. cond b (Some (emptied a)) (get heads d)) (tied_false exact_bytes d c apart))

kept_own : (c : List ℕ) (t : Tables) → kept_in c (all_dropped c t) ≡ no_messages (kept_in c t)
kept_own c t = ap (λ xs. kept_of size xs (rows_of text_cmp c (entries t.lines)))
    (none_own c t.messages)

pub counts_dropped : (c : List ℕ) (t : Tables) → AreCounted t → AreCounted (all_dropped c t)
counts_dropped c t h d = ⊎_elim
    (λ (e : d ≡ c). subst
    (λ x. (account (emptied_head c t.heads) x).counts ≡ kept_in x (all_dropped c t)) (sym e)
    (own_counts c t.heads ∙ ap no_messages (h c) ∙ sym (kept_own c t)))
    (λ (e : d ≢ c). ap (λ (a : Account). a.counts) (other_account c d t.heads e) ∙ h d
    ∙ sym (ap (λ xs. kept_of size xs (rows_of text_cmp d (entries t.lines)))
    (other_same c t.messages d e)))
    (cases_name d c)

-- ---- what each deletion leaves

abbrev drops : List Message → List Change
drops ms = map queue.drop ms

in_parts : (c : List ℕ) (ms : List Message) (t : Tables) → write_all c (drops ms) t ≡ record t {
  heads = (write_all c (drops ms) t).heads;
  messages = rows_left c ms t.messages;
  recipients = recipients_left c ms t.recipients;
  holds = reasons_left c ms t.holds;
}
in_parts c [] t = refl
in_parts c (m ∷ ms) t = in_parts c ms (write c (DropMessage m.serial) t)

-- the head row stays, with some counts
abbrev HasHead : List ℕ → Heads → Account → Heads → Type 0
HasHead c heads a after = (n : Counts) × (after ≡ insert heads c (record a { counts = n }))

heads_of : (c : List ℕ) (ms : List Message) (t : Tables) (a : Account) → get t.heads c ≡ Some a →
    HasHead c t.heads a (write_all c (drops ms) t).heads
unfolding counted
heads_of c [] t a there = (
  a.counts,
  sym (put_same nat_list_cmp_total exact_bytes t.heads c a there),
)
heads_of c (m ∷ ms) t a there = go (get t.messages (c, m.serial)) refl
    (λ b got. heads_of c ms (write c (DropMessage m.serial) t) b got)
  where
    next : Tables
    next = write c (DropMessage m.serial) t

    after : Heads
    after = (write_all c (drops ms) (write c (DropMessage m.serial) t)).heads

    again : (heads : Heads) (b : Account) → next.heads ≡ insert heads c b →
        ((x : Account) → get next.heads c ≡ Some x → HasHead c next.heads x after) →
        HasHead c heads b after
    again heads b is more =
        let got : get next.heads c ≡ Some b = ap (λ hs. get hs c) is
        ∙ get-insert nat_list_cmp_total heads c b c
        ∙ ap (λ e. cond e (Some b) (get heads c)) (tied_true nat_list_cmp_total c) in
        let one = more b got in (
          one.0,
          one.1 ∙ ap (λ hs. insert hs c (record b { counts = one.0 })) is
              ∙ put_twice heads c b (record b { counts = one.0 }),
        )

    go : (o : Option Row) → get t.messages (c, m.serial) ≡ o →
        ((x : Account) → get next.heads c ≡ Some x → HasHead c next.heads x after) →
        HasHead c t.heads a after
    go None e more = again t.heads a
        (ap (λ o. given t.heads
        (λ (r : Row). counted (without_message r.size) c t.heads) o) e
        ∙ sym (put_same nat_list_cmp_total exact_bytes t.heads c a there)) more
    go (Some r) e more = again t.heads (recounted (without_message r.size) a)
        (ap (λ o. given t.heads
        (λ (x : Row). counted (without_message x.size) c t.heads) o) e
        ∙ ap (λ o. insert t.heads c
        (recounted (without_message r.size) (unwrap_or o opening_account))) there) more

-- ---- of all messages of a customer

module _ (c : List ℕ) (t : Tables) (sound : Sound t) where
  abbrev all : List Message
  all = messages_in c t

  abbrev each : Tables
  each = write_all c (drops all) t

  kept_each : kept_in c each ≡ no_messages (kept_in c t)
  kept_each = ap (kept_in c) (in_parts c all t)
      ∙ ap (λ rows. kept_of size (rows_of text_cmp c (entries rows))
      (rows_of text_cmp c (entries t.lines))) (rows_gone c t sound)
      ∙ kept_own c t

  -- who has no head row has no message
  nobody : get t.heads c ≡ None → all ≡ []
  nobody e = ap (map (λ (x : ℕ × Row). joined c t.recipients t.holds x.0 x.1))
      (none (rows_of text_cmp c (entries t.messages))
      (ap (λ o. (unwrap_or o opening_account).counts.messages) (sym e)
      ∙ ap (λ (n : Counts). n.messages) (sound.counts c)))
    where
      none : (xs : List (ℕ × Row)) → 0 ≡ length xs → xs ≡ []
      none [] h = refl
      none (x ∷ xs) h = absurd (let f = h in cc)

  heads_gone : each.heads ≡ emptied_head c t.heads
  heads_gone = go (get t.heads c) refl
    where
      go : (o : Option Account) → get t.heads c ≡ o →
          each.heads ≡ given t.heads (λ (a : Account). insert t.heads c (emptied a)) o
      go None e = ap (λ ms. (write_all c (drops ms) t).heads) (nobody e)
      go (Some a) e =
          let shape = heads_of c all t a e in
          let told : shape.0 ≡ no_messages a.counts =
          sym (ap (λ (x : Account). x.counts)
          (ap (λ hs. account hs c) shape.1 ∙ at_own c t.heads (record a { counts = shape.0 })))
          ∙ counts_stay c (drops all) t sound.counts c ∙ kept_each
          ∙ ap no_messages (sym (sound.counts c))
          ∙ ap (λ o. no_messages (unwrap_or o opening_account).counts) e in
          shape.1 ∙ ap (λ n. insert t.heads c (record a { counts = n })) told

  pub dropped_as_each : write_all c (drops all) t ≡ all_dropped c t
  dropped_as_each = in_parts c all t ∙ (λ i. record t {
    heads = heads_gone i;
    messages = rows_gone c t sound i;
    recipients = recipients_gone c t sound i;
    holds = reasons_gone c t sound i;
  })

  -- changes of which the first drop all messages
  pub dropped_then : (n : ℕ) (changes : List Change) → take n changes ≡ drops all →
      write_all c (drop n changes) (all_dropped c t) ≡ write_all c changes t
  dropped_then n changes first = sym (ap (λ xs. write_all c xs t) (sym (take-append-drop n changes))
      ∙ ap (λ xs. write_all c (xs ++ drop n changes) t) first
      ∙ write_all-append c (drops all) (drop n changes) t
      ∙ ap (write_all c (drop n changes)) dropped_as_each)
