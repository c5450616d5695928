-- The rows that a migration adds to holds are those of the messages on hold.
use Rattle.std.proofs.Common.{◌≡◌, ℕ, ℤ, pos, false, List, [], ◌∷◌, map, filter, drop, length}
use Rattle.std.proofs.Common.{Ordering, Less, is_eq, refl, sym, ap, ◌∙◌, subst, nat_cmp}
use Rattle.std.specs.List.{AllByRecursion, IsDistinct, list_all}
use Rattle.std.specs.Ordering.{eq_by_cmp}
use Rattle.std.specs.FinMap.{entries, entries_sorted, from_entries}
use Rattle.std.proofs.lemmas.List.{length-map}
use Rattle.sqlite.specs.declared.types.Value.TheVariants.{Null, Int, Text}
use Rattle.sqlite.specs.Cast.{cast_row}
use Rattle.sqlite.specs.Edit.{numbered, put_all}
use Rattle.sqlite.specs.Order.{Row}
use Rattle.sqlite.specs.Program.{overlay}
use Rattle.sqlite.specs.Query.{IsAnswer, output, output_cmp}
use Rattle.sqlite.specs.Rowids.TheVariants.{Chosen}
use Rattle.sqlite.specs.Table.{Table}
use Rattle.sqlite.specs.Term.{holds}
use Rattle.sqlite.specs.Tree.{Trees, IsAscending, rowid}
use Rattle.sqlite_keyed.proofs.ListLemmas.{map-map}
use Rattle.sqlite_typed.proofs.TestLemmas.{last_term, then_key, last_key, then_value}
use Rattle.sqlite_value.proofs.OrderLemmas.{value_cmp-Text}
use Rattle.hq_keyed.proofs.Keyed.{read_back}
use Rattle.hq_keyed.proofs.Terms.{number_is, number_order}
use Rattle.hq_keyed.proofs.Writes.{cast_null, cast_int}
use Rattle.hq_kept.specs.declared.message.QueueState.{QueueState}
use Rattle.hq_kept.specs.declared.message.QueueState.TheVariants.{Incoming, Deferred, Hold}
use Rattle.hq_owned.specs.Rows.{map_of, pairs_of, HasUniqueKeys}
use Rattle.hq_owned.proofs.Pages.{sorted_rows}
use Rattle.hq_owned.proofs.Unique.{unique_filter}
use Rattle.hq_schema.specs.Schema as schema
use Rattle.hq_rows.specs.declared.rows.HoldRow.{HoldRow}
use Rattle.hq_rows.specs.declared.rows.MessageRow.{MessageRow}
use Rattle.hq_sql_open.specs.Lifted.{on_hold, holds_for}
use Rattle.hq_rows.specs.Listed.{message_key, message_value, messages_of, hold_key, hold_value}
use Rattle.hq_rows.specs.Listed.{holds_of}
use Rattle.hq_tables.specs.Tables as store
use Rattle.hq_tables.specs.Tables.{message_cmp}
use Rattle.hq_tables.proofs.Orders.{message_total, message_exact}
use Rattle.hq_tables.proofs.Orders.{ascending}
use Rattle.hq_sql.specs.Rows.{state_code, message_stored, message_read, hold_stored, hold_read}
use Rattle.hq_sql.specs.Tables.{AreMessages}
use Rattle.hq_sql_open.specs.Migration.{AreReasons}
use Rattle.hq_kept.specs.Messages.{is_on_hold}
use Rattle.hq_keyed.specs.Filled.{added}
use Rattle.hq_keyed.proofs.Filling.{all_put, added_typed, added_rises}
use Rattle.hq_keyed.proofs.Ordered as ordered
use Rattle.hq_sql_open.proofs.MigrationTexts.{held_terms, fill_query}

-- ---- what the query shows, and what is made of it

is_two : (s : QueueState) → eq_by_cmp nat_cmp 2 (state_code s) ≡ is_on_hold s
is_two Incoming = refl
is_two Deferred = refl
is_two Hold = refl

held_tests : (reason : List ℕ) (k : ℤ × MessageRow) →
    list_all (holds ((Text reason ∷ []) ∷ message_stored k ∷ [])) held_terms ≡ is_on_hold k.1.state
held_tests reason k = last_term (number_is (state_code k.1.state) 2) ∙ is_two k.1.state

abbrev holds_table : Table
holds_table = record schema.holds { tree = 14 }

abbrev typed : List ℕ → ℤ × MessageRow → HoldRow
typed reason k = record { customer = k.1.customer; serial = k.1.serial; reason = reason }

abbrev made : List ℕ → ℤ × MessageRow → Row
made reason k = cast_row holds_table (output fill_query ((Text reason ∷ []) ∷ message_stored k
    ∷ [])).1

made_null : (reason : List ℕ) (k : ℤ × MessageRow) → rowid (made reason k) ≡ Null
made_null reason k = cast_null

made_row : (reason : List ℕ) (k : ℤ × MessageRow) (n : ℤ) → Int n
    ∷ drop 1 (made reason k) ≡ hold_stored (n, typed reason k)
made_row reason k n = then_value refl
    (then_value refl (then_value (cast_int (pos k.1.serial)) refl))

hold_back : (ks : List (ℤ × HoldRow)) → AllByRecursion (λ k. hold_read (hold_stored k) ≡ k.1) ks
hold_back [] = tt
hold_back (k ∷ ks) = (refl, hold_back ks)

-- ---- entries whose keys rise are apart

module _ {K X : Type 0} (R : K → K → Ordering) where
  keys_apart : (k : K) (es : List (K × X)) → AllByRecursion (λ (b : K × X). R k b.0 ≡ Less) es →
      AllByRecursion (λ y. eq_by_cmp R k y ≡ false) (map (λ e. e.0) es)
  keys_apart k [] all = tt
  keys_apart k (e ∷ es) all = (ap is_eq all.0, keys_apart k es all.1)

  unique_entries : (es : List (K × X)) → IsAscending (λ (a b : K × X). R a.0 b.0 ≡ Less) es →
      HasUniqueKeys R (λ (e : K × X). e.0) es
  unfolding IsDistinct
  unique_entries [] h = tt
  unique_entries (e ∷ es) h = (keys_apart e.0 es h.0, unique_entries es h.1)

abbrev Entry : Type 0
Entry = (List ℕ × ℕ) × store.Row

abbrev reasoned : List ℕ → Entry → (List ℕ × ℕ) × List ℕ
reasoned reason e = (e.0, reason)

-- ---- all rows

order_is : (reason : List ℕ) (j k : ℤ × MessageRow) →
    output_cmp fill_query (output fill_query ((Text reason ∷ []) ∷ message_stored j ∷ []))
    (output fill_query ((Text reason ∷ []) ∷ message_stored k ∷ [])) ≡ message_cmp (message_key j.1)
    (message_key k.1)
order_is reason j k =
    then_key (value_cmp-Text j.1.customer k.1.customer)
    (last_key (number_order j.1.serial k.1.serial))

module _ (reason : List ℕ) (db : Trees) (s : AreMessages (db 3)) (rows : List Row)
    (a : IsAnswer fill_query (overlay db []) (Text reason ∷ []) rows) where
  abbrev passing : List (ℤ × MessageRow)
  passing = ordered.passing_of message_cmp message_key (λ r. is_on_hold r.state) s.kept

  rows_are : rows ≡ map (λ k. (output fill_query ((Text reason ∷ []) ∷ message_stored k ∷ [])).1)
      passing
  rows_are = ordered.rows_are message_stored message_read message_total message_exact message_key
      message_value fill_query (overlay db []) 3 (Text reason ∷ []) s refl refl refl rows a
      (λ r. is_on_hold r.state) (held_tests reason) (order_is reason) (λ xs. refl)

  abbrev news : List HoldRow
  news = map (typed reason) passing

  abbrev kept : List (ℤ × HoldRow)
  kept = added [] news

  stored : put_all [] (numbered Chosen [] (map (cast_row holds_table) rows)) ≡ map hold_stored kept
  stored =
      ap (λ l. put_all [] (numbered Chosen [] l)) (ap (map (cast_row holds_table)) rows_are
      ∙ map-map (cast_row holds_table) (λ k.
      (output fill_query ((Text reason ∷ []) ∷ message_stored k ∷ [])).1) passing)
      ∙ all_put hold_stored (λ k. refl) (made reason) (typed reason) (made_null reason)
      (made_row reason) passing [] [] refl tt

  kept_typed : map (λ k. k.1) kept ≡ news
  kept_typed = added_typed [] news

  held_pairs : pairs_of message_key message_value (map (λ k. k.1) passing) ≡ filter on_hold
      (entries (messages_of (map message_read (db 3))))
  held_pairs =
      ap (pairs_of message_key message_value)
      (ordered.values_are message_stored message_read message_total message_exact message_key
      message_value fill_query (overlay db []) 3 (Text reason ∷ []) s refl refl refl rows a
      (λ r. is_on_hold r.state) (held_tests reason) (order_is reason))
      ∙ sorted_rows message_total message_key message_value on_hold (map message_read (db 3))
      s.unique

  new_pairs : pairs_of hold_key hold_value news ≡ map (reasoned reason)
      (filter on_hold (entries (messages_of (map message_read (db 3)))))
  new_pairs =
      map-map (λ r. (hold_key r, hold_value r)) (typed reason) passing
      ∙ sym (ap (map (reasoned reason)) (map-map
      (λ (r : MessageRow). (message_key r, message_value r)) (λ (k : ℤ × MessageRow). k.1)
      passing) ∙ map-map (reasoned reason) (λ (k : ℤ × MessageRow). (
        message_key k.1,
        message_value k.1,
      )) passing)
      ∙ ap (map (reasoned reason)) held_pairs

  new_keys : map hold_key news ≡ map (λ (e : Entry). e.0)
      (filter on_hold (entries (messages_of (map message_read (db 3)))))
  new_keys =
      map-map hold_key (typed reason) passing
      ∙ sym (ap (map (λ (e : Entry). e.0))
      (map-map (λ (r : MessageRow). (message_key r, message_value r))
      (λ (k : ℤ × MessageRow). k.1) passing) ∙ map-map (λ (e : Entry). e.0)
      (λ (k : ℤ × MessageRow). (message_key k.1, message_value k.1)) passing)
      ∙ ap (map (λ (e : Entry). e.0)) held_pairs

  module _ (count : ℕ) (holds_rows : List Row)
      (are : holds_rows ≡ put_all [] (numbered Chosen [] (map (cast_row holds_table) rows)))
      (told : count ≡ length rows) where
    all_are : holds_rows ≡ map hold_stored kept
    all_are = are ∙ stored

    all_typed : map hold_read holds_rows ≡ news
    all_typed = ap (map hold_read) all_are
        ∙ read_back hold_stored hold_read message_total message_exact hold_key hold_value kept
        (hold_back kept) ∙ kept_typed

    rising : IsAscending (λ (x y : Entry). message_cmp x.0 y.0 ≡ Less)
        (entries (messages_of (map message_read (db 3))))
    rising = ascending message_cmp _ (entries_sorted (messages_of (map message_read (db 3))))

    unique : HasUniqueKeys message_cmp hold_key news
    unique = subst (IsDistinct (eq_by_cmp message_cmp)) (sym new_keys)
        (unique_filter message_cmp (λ (e : Entry). e.0) on_hold _
        (unique_entries message_cmp _ rising))

    same : holds_of news ≡ holds_for reason (messages_of (map message_read (db 3)))
    unfolding map_of holds_for
    same = ap from_entries new_pairs

    pub reasons : AreReasons reason (db 3) holds_rows count
    reasons = record {
      are = record {
        kept = kept;
        rows_are = all_are;
        rises = added_rises [] news tt;
        back = hold_back kept;
        unique = subst (HasUniqueKeys message_cmp hold_key) (sym all_typed) unique;
      };
      found = ap holds_of all_typed ∙ same;
      count_is = told ∙ ap length rows_are
          ∙ length-map passing (λ k. (output fill_query ((Text reason ∷ []) ∷ message_stored k
          ∷ [])).1)
          ∙ sym (ap length (sym held_pairs) ∙ length-map (map (λ k. k.1) passing)
          (λ (r : MessageRow). (message_key r, message_value r))
          ∙ length-map passing (λ (k : ℤ × MessageRow). k.1));
    }
