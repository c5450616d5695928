-- What the INSERT of a reason at all messages of a customer that are not on hold does.
use Rattle.std.proofs.Common.{◌≡◌, ◌&&◌, ℕ, ℤ, pos, Bool, true, false, true≢false, cond, T, List}
use Rattle.std.proofs.Common.{[], ◌∷◌, map, filter, fold, drop, Option, Some, Ok, IsPermutation}
use Rattle.std.proofs.Common.{refl, sym, ap, ◌∙◌, subst, subst₂}
use Rattle.std.specs.Ordering.{eq_by_cmp}
use Rattle.std.specs.declared.cmp.Ordering.{Ordering}
use Rattle.std.specs.Cmp.{IsTotalOrder}
use Rattle.std.specs.FinMap.{FinMap, entries, get, insert, get-insert, same_map}
use Rattle.std.proofs.lemmas.List.Sorted.{IsPermutation-map, IsPermutation-sym}
use Rattle.std.proofs.lemmas.Map.Lookups.{CmpEqualImpliesEq, exact_bytes}
use Rattle.sqlite.specs.declared.types.Value.TheVariants.{Null, Int, Text}
use Rattle.sqlite.specs.Cast.{cast_row}
use Rattle.sqlite.specs.Effect.{Answers}
use Rattle.sqlite.specs.Order.{Row}
use Rattle.sqlite.specs.Program.{overlay}
use Rattle.sqlite.specs.Query.{IsAnswer, Output, output}
use Rattle.sqlite.specs.State.{State}
use Rattle.sqlite.specs.Tree.{rowid}
use Rattle.sqlite_keyed.specs.Lists.{sort_by}
use Rattle.sqlite_keyed.proofs.ListLemmas.{along_permutation, filter-map, map-map}
use Rattle.sqlite_keyed.proofs.SortLemmas.{IsPermutation-sort_by}
use Rattle.sqlite_typed.proofs.TestLemmas.{then_value}
use Rattle.hq_owned.specs.Rows.{pairs_of}
use Rattle.hq_owned.proofs.Cases.{equal}
use Rattle.hq_owned.proofs.Pages.{sorted_rows}
use Rattle.hq_keyed.proofs.Keyed.{typed}
use Rattle.hq_keyed.proofs.Placed.{Wrote}
use Rattle.hq_keyed.proofs.Select.{answer_is}
use Rattle.hq_keyed.proofs.Writes.{cast_null, cast_int}
use Rattle.hq_schema.specs.Schema as schema
use Rattle.hq_tables.specs.Tables as store
use Rattle.hq_tables.specs.Tables.{text_cmp, message_cmp}
use Rattle.hq_tables.proofs.Orders.{message_total, message_exact}
use Rattle.hq_rows.specs.declared.rows.HoldRow.{HoldRow}
use Rattle.hq_rows.specs.declared.rows.MessageRow.{MessageRow}
use Rattle.hq_rows.specs.Listed.{message_key, message_value}
use Rattle.hq_sql.specs.Kept.{HasTried}
use Rattle.hq_sql.specs.Rows.{message_stored, message_read, hold_stored}
use Rattle.hq_sql.specs.Tables.{IsDesk, tables_in}
use Rattle.hq_sql.proofs.Keeping.{unchanged_leaves}
use Rattle.hq_sql.proofs.Tables.{left}
use Rattle.hq_sql_messages.specs.Holds.{hold_row, hold_each}
use Rattle.hq_sql_messages.specs.Moves.{AddedAll, reasoned_columns, standing_serials}
use Rattle.hq_sql_messages.specs.Moves.{with_queued_held}
use Rattle.hq_sql_messages.proofs.AllPut.{puts_all, refused_leaves}
use Rattle.hq_sql_messages.proofs.OnHolds.{holds_table, holds_guard}
use Rattle.hq_sql_messages.proofs.OnMoves.{stands, stands_so, queued_tests}
use Rattle.hq_sql_messages.proofs.PutBack.{unmapped}
use Rattle.hq_sql_messages.proofs.MoveTexts as text

abbrev Key : Type 0
Key = List ℕ × ℕ

abbrev Entry : Type 0
Entry = Key × store.Row

abbrev Holds : Type 0
Holds = FinMap message_cmp (List ℕ)

-- ---- one value, put at several keys in any order

module _ {K V : Type 0} {R : K → K → Ordering} (o : IsTotalOrder R) (exact : CmpEqualImpliesEq R)
  where
    either_first : (a b : Bool) (v : V) (n : Option V) →
        cond a (Some v) (cond b (Some v) n) ≡ cond b (Some v) (cond a (Some v) n)
    either_first true true v n = refl
    either_first true false v n = refl
    either_first false b v n = refl

    put_either_first : (m : FinMap R V) (j k : K) (v : V) →
        insert (insert m j v) k v ≡ insert (insert m k v) j v
    put_either_first m j k v = same_map o exact _ _ (λ q.
        get-insert o (insert m j v) k v q
        ∙ ap (cond (eq_by_cmp R q k) (Some v)) (get-insert o m j v q)
        ∙ either_first (eq_by_cmp R q k) (eq_by_cmp R q j) v (get m q)
        ∙ ap (cond (eq_by_cmp R q j) (Some v)) (sym (get-insert o m k v q))
        ∙ sym (get-insert o (insert m k v) j v q))

    put_all_in_any_order : {A : Type 0} (key : A → K) (v : V) (xs ys : List A) →
        IsPermutation xs ys → (m : FinMap R V) →
        fold (λ m x. insert m (key x) v) m xs ≡ fold (λ m x. insert m (key x) v) m ys
    put_all_in_any_order {A} key v = along_permutation
        (λ xs ys. (m : FinMap R V) → fold (λ m x. insert m (key x) v) m xs ≡ fold
        (λ m x. insert m (key x) v) m ys) (λ xs m. refl)
        (λ x xs ys h m. h (insert m (key x) v))
        (λ x y xs m. ap (λ l. fold (λ m x. insert m (key x) v) l xs)
        (put_either_first m (key x) (key y) v)) (λ xs ys zs h g m. h m ∙ g m)

-- ---- the reason at the messages that are not on hold

module _ (c reason : List ℕ) where
  put_pairs : (rows : List MessageRow) (hs : Holds) →
      fold (λ m r. insert m (message_key r) reason) hs rows ≡ fold
      (λ m (e : Entry). insert m e.0 reason) hs (pairs_of message_key message_value rows)
  put_pairs [] hs = refl
  put_pairs (r ∷ rows) hs = put_pairs rows (insert hs (message_key r) reason)

  put_typed : (ks : List (ℤ × MessageRow)) (hs : Holds) →
      fold (λ m k. insert m (message_key k.1) reason) hs ks ≡ fold
      (λ m r. insert m (message_key r) reason) hs (map (λ k. k.1) ks)
  put_typed [] hs = refl
  put_typed (k ∷ ks) hs = put_typed ks (insert hs (message_key k.1) reason)

  abbrev serial : Entry → ℕ
  serial e = e.0.1

  put_serials : (es : List Entry) (hs : Holds) →
      fold (λ m (e : Entry). insert m e.0 reason) hs (filter (stands c false) es) ≡ hold_each c
      reason (map serial (filter (stands c false) es)) hs
  put_serials [] hs = refl
  put_serials (e ∷ es) hs = go (stands c false e) refl (put_serials es)
    where
      rest : List Entry
      rest = filter (stands c false) es

      both : (a b : Bool) → (a && b) ≡ true → a ≡ true
      both true b h = refl
      both false b h = absurd (true≢false (sym h))

      go : (b : Bool) → stands c false e ≡ b → ((ms : Holds) →
          fold (λ m (x : Entry). insert m x.0 reason) ms rest ≡ hold_each c reason
          (map serial rest) ms) →
          fold (λ m (x : Entry). insert m x.0 reason) hs (cond b (e ∷ rest) rest) ≡ hold_each c
          reason (map serial (cond b (e ∷ rest) rest)) hs
      go false is more = more hs
      go true is more =
          let owner : c ≡ e.0.0 = exact_bytes c e.0.0 (equal _ (subst T (sym (both _ _ is)) tt)) in
          more (insert hs e.0 reason)
          ∙ ap (λ d. hold_each c reason (map serial rest) (insert hs (d, e.0.1) reason)) (sym owner)

-- messages in the order of their keys
by_key : IsTotalOrder (λ (a b : MessageRow). message_cmp (message_key a) (message_key b))
by_key = record {
  antisymm = λ a b. message_total.antisymm (message_key a) (message_key b);
  trans = λ a b d. message_total.trans (message_key a) (message_key b) (message_key d);
  congr = λ a b d. message_total.congr (message_key a) (message_key b) (message_key d);
}

-- ---- the statement

abbrev made : List ℕ → ℤ × MessageRow → HoldRow
made reason k = hold_row k.1.customer k.1.serial reason

abbrev shown : List ℕ → List ℕ → ℤ × MessageRow → Row
shown c reason k =
    (output text.reasoned_query (reasoned_columns c reason ∷ message_stored k ∷ [])).1

made_null : (c reason : List ℕ) (k : ℤ × MessageRow) →
    rowid (cast_row holds_table.place.table (shown c reason k)) ≡ Null
made_null c reason k = cast_null

made_row : (c reason : List ℕ) (k : ℤ × MessageRow) (n : ℤ) → Int n
    ∷ drop 1 (cast_row holds_table.place.table (shown c reason k)) ≡ hold_stored (n, made reason k)
made_row c reason k n =
    then_value refl (then_value refl (then_value (cast_int (pos k.1.serial)) refl))

module _ (old new : State) (c reason : List ℕ) (desk : IsDesk old.now) where
  abbrev rows : List Row
  rows = old.now.trees 3

  abbrev passing : List (ℤ × MessageRow)
  passing = filter (λ k. stands_so c false k.1) desk.messages.kept

  -- the rows of the query are those of the messages that are not on hold
  answered : (given : List Row) → Answers (record old.now { schema = schema.desk_schema })
      (record { lets = []; body = text.reasoned_query }) (reasoned_columns c reason) given →
      (ks : List (ℤ × MessageRow)) × IsPermutation passing ks × (given ≡ map (shown c reason) ks)
  answered given answers =
      let q = text.reasoned_query in
      let params = reasoned_columns c reason in
      let db = overlay old.now.trees [] in
      let a : IsAnswer q db params given = answers.answer Null in
      let same = answer_is q db 3 params message_stored desk.messages.kept
      (λ k. stands_so c false k.1) refl refl refl desk.messages.rows_are
      (queued_tests c (Text reason ∷ [])) given a in
      unmapped (shown c reason) passing given (subst₂ IsPermutation
      (map-map (λ (r : Output). r.1) (λ k. output q (params ∷ message_stored k ∷ [])) passing)
      (sym a.shown) (IsPermutation-map (λ (r : Output). r.1) _ _ same))

  -- the reason was put at each, in some order
  all_reasoned : (ks : List (ℤ × MessageRow)) → IsPermutation passing ks → (hs : Holds) →
      fold (λ m k. insert m (message_key k.1) reason) hs ks ≡ hold_each c reason
      (standing_serials c false (tables_in old.now)) hs
  all_reasoned ks same hs =
      let all = map message_read rows in
      let found = filter (stands_so c false) all in
      let rise = λ (a b : MessageRow). message_cmp (message_key a) (message_key b) in
      sym (put_all_in_any_order message_total message_exact
      (λ (k : ℤ × MessageRow). message_key k.1) reason passing ks same hs)
      ∙ put_typed c reason passing hs
      ∙ ap (fold (λ m r. insert m (message_key r) reason) hs)
      (sym (filter-map (stands_so c false) (λ (k : ℤ × MessageRow). k.1) desk.messages.kept)
      ∙ ap (filter (stands_so c false)) (sym (typed message_stored message_read message_total
      message_exact message_key message_value rows desk.messages)))
      ∙ put_all_in_any_order message_total message_exact message_key reason found
      (sort_by rise found) (IsPermutation-sym _ _ (IsPermutation-sort_by rise by_key found)) hs
      ∙ put_pairs c reason (sort_by rise found) hs
      ∙ ap (fold (λ m (e : Entry). insert m e.0 reason) hs)
      (sorted_rows message_total message_key message_value (stands c false) all
      desk.messages.unique)
      ∙ put_serials c reason (entries (tables_in old.now).messages) hs

  tried : (there : Bool) →
      HasTried text.reasoned_text (reasoned_columns c reason) old new (Ok there) →
      AddedAll there old new (tables_in old.now) (with_queued_held c reason (tables_in old.now))
  tried true h = record {
    untouched = λ _. unchanged_leaves old new desk
        (refused_leaves old new text.reasoned_text (reasoned_columns c reason) h.0);
    made = λ e. absurd (true≢false e);
  }
  tried false h = record {
    untouched = λ e. absurd (true≢false (sym e));
    made = λ _.
        let it = puts_all schema.desk_schema holds_table.place holds_table.kind holds_guard
        (shown c reason) (made reason) (made_null c reason) (made_row c reason) (λ k. refl) old new
        desk.schema_is desk.holds text.reasoned_text
        (record { lets = []; body = text.reasoned_query }) text.reasoned_known
        (reasoned_columns c reason) h.0 (IsPermutation passing) answered h.1 in
        left holds_table old new _ desk (subst (Wrote schema.desk_schema 14 holds_table.kind old
        new) (all_reasoned it.0 it.1 (tables_in old.now).holds) it.2);
  }

  pub reasons_added : (there : Bool) (params : Row) → params ≡ reasoned_columns c reason →
      HasTried text.reasoned_text params old new (Ok there) →
      AddedAll there old new (tables_in old.now) (with_queued_held c reason (tables_in old.now))
  reasons_added there params are h =
      tried there (subst (λ p. HasTried text.reasoned_text p old new (Ok there)) are h)
