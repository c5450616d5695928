-- What the texts on the version table do.
use Rattle.std.proofs.Common.{◌≡◌, inl, inr, ℕ, ℤ, pos, Bool, true, false, cond, List, [], ◌∷◌, map}
use Rattle.std.proofs.Common.{filter, Ok, Err, Result, IsTrue, OnErr, refl, sym, ap, ◌∙◌, subst}
use Rattle.std.proofs.Common.{subst₂, arith, IsPermutation}
use Rattle.std.specs.List.{AllByRecursion, IsDistinct}
use Rattle.std.proofs.lemmas.List.Sorted.{IsPermutation-map, IsPermutation-sym, length_permutation}
use Rattle.sqlite.specs.declared.error.Error.{Error}
use Rattle.sqlite.specs.declared.types.Value.{Value}
use Rattle.sqlite.specs.declared.types.Value.TheVariants.{Null, Int}
use Rattle.sqlite.specs.Order.{Row, column}
use Rattle.sqlite.specs.Query.{IsAnswer, Output}
use Rattle.sqlite.specs.Program.{overlay}
use Rattle.sqlite.specs.Tree.{Trees}
use Rattle.sqlite.specs.Listing.{understood}
use Rattle.sqlite.specs.Effect.{Database, Answers}
use Rattle.sqlite.specs.State.{State, HasCleanDisk, Executes, Survives, CommitsBy, CommitsShowing}
use Rattle.sqlite.specs.State.{Shown, IsUnchanged, KeepsCommit}
use Rattle.sqlite.proofs.Callers.{runs_as, reads_as, one_permutation, IsPlain}
use Rattle.sqlite_keyed.proofs.ListLemmas.{map-map, filter_all}
use Rattle.hq_keyed.proofs.Left.{execute_left, left_keeps, shown_unchanged}
use Rattle.hq_keyed.proofs.Select.{answer_is}
use Rattle.hq_keyed.proofs.Stops.{may_end, write_leaves_no_more, query_leaves_no_more}
use Rattle.hq_keyed.proofs.Writes.{inserted, cast_null, cast_int}
use Rattle.hq_schema.specs.Schema.{desk_schema, version_alone, version}
use Rattle.hq_tables.specs.Tables.{no_tables, text_cmp, message_cmp, recipient_cmp, lines_cmp}
use Rattle.hq_tables.specs.Tables.{mark_cmp, notice_cmp, end_cmp}
use Rattle.hq_rows.specs.Listed.{head_key, message_key, recipient_key, hold_key, line_row_key}
use Rattle.hq_rows.specs.Listed.{mark_key, notice_key, heads_of, messages_of, recipients_of}
use Rattle.hq_rows.specs.Listed.{holds_of, lines_of, marks_of, notices_of, end_key, ends_of}
use Rattle.hq_rows.proofs.NoRows.{no_rows}
use Rattle.hq_owned.specs.Rows.{HasUniqueKeys}
use Rattle.hq_sql.specs.Rows.{head_read, message_read, recipient_read, hold_read, line_read}
use Rattle.hq_sql.specs.Rows.{mark_read, notice_read, end_read}
use Rattle.hq_sql.specs.Tables.{Leaves, tables_in}
use Rattle.hq_sql.proofs.Tables.{no_index, apart}
use Rattle.hq_sql_open.specs.Making.{AreEmpty}
use Rattle.hq_sql_open.specs.Opening.{versions_in, IsVersioned, ShowVersions, ShowsOne, HasVersions}
use Rattle.hq_sql_open.specs.Opening.{TellsWhether, KeepsReading}
use Rattle.hq_sql_open.specs.Transactions.{KeepsAll}
use Rattle.hq_sql_open.proofs.OpeningTexts.{stamp_text, stamp_terms, stamp_is, stamp_plain}
use Rattle.hq_sql_open.proofs.OpeningTexts.{read_text}
use Rattle.hq_sql_open.proofs.OpeningTexts.{read_query, read_is, read_plain, read_listed, alone_is}
use Rattle.hq_sql_open.proofs.OpeningTexts.{alone_plain, alone_listed}

-- ---- the version is written, and the other tables have no row

abbrev version_row : ℤ × ℕ → Row
version_row k = Int k.0 ∷ Int (pos k.1) ∷ []

no_rows_of : (trees : Trees) → trees 1 ≡ [] → trees 3 ≡ [] → trees 6 ≡ [] → trees 8 ≡ [] →
    trees 12 ≡ [] → trees 10 ≡ [] → trees 14 ≡ [] → trees 16 ≡ [] →
    tables_in (record { schema = desk_schema; trees = trees }) ≡ no_tables
no_rows_of trees h m r l k n o e =
    (λ i. record {
      heads = heads_of (map head_read (h i));
      messages = messages_of (map message_read (m i));
      recipients = recipients_of (map recipient_read (r i));
      holds = holds_of (map hold_read (o i));
      lines = lines_of (map line_read (l i));
      marks = marks_of (map mark_read (k i));
      notices = notices_of (map notice_read (n i));
      ends = ends_of (map end_read (e i));
    })
    ∙ no_rows

pub stamped : (old new : State) (count : ℕ) → old.now.schema ≡ desk_schema →
    AreEmpty desk_schema.tables old.now.trees → Executes stamp_text [] old new (Ok count) →
    Leaves old new no_tables
unfolding IsDistinct
stamped old new count has empty h =
    let w = runs_as stamp_text [] old new desk_schema has _ stamp_is stamp_plain count h in
    let source = Null ∷ Int (pos 3) ∷ [] in
    let sets = inserted desk_schema version_row (λ k. refl) 0 (record version { tree = 0 }) refl
    (λ db. refl) (λ olds news. refl) stamp_terms 2 old new _ [] count [] 3 source refl refl
    cast_null (λ n. ap (λ v. Int n ∷ v ∷ []) (cast_int (pos 3))) has empty.0 tt w in
    let hs : new.now.trees 1 ≡ [] = sets.others 1 (apart 1 0 refl) (no_index 1 refl) ∙ empty.1.0 in
    let ms : new.now.trees 3 ≡ [] = sets.others 3 (apart 3 0 refl) (no_index 3 refl)
    ∙ empty.1.1.0 in
    let rs : new.now.trees 6 ≡ [] = sets.others 6 (apart 6 0 refl) (no_index 6 refl)
    ∙ empty.1.1.1.0 in
    let ls : new.now.trees 8 ≡ [] = sets.others 8 (apart 8 0 refl) (no_index 8 refl)
    ∙ empty.1.1.1.1.0 in
    let ns : new.now.trees 10 ≡ [] = sets.others 10 (apart 10 0 refl) (no_index 10 refl)
    ∙ empty.1.1.1.1.1.0 in
    let ks : new.now.trees 12 ≡ [] = sets.others 12 (apart 12 0 refl) (no_index 12 refl)
    ∙ empty.1.1.1.1.1.1.0 in
    let os : new.now.trees 14 ≡ [] = sets.others 14 (apart 14 0 refl) (no_index 14 refl)
    ∙ empty.1.1.1.1.1.1.1.0 in
    let es : new.now.trees 16 ≡ [] = sets.others 16 (apart 16 0 refl) (no_index 16 refl)
    ∙ empty.1.1.1.1.1.1.1.1.0 in
    record {
      desk = record {
        schema_is = sets.schema_is;
        version = ap (map (λ r. column r 1)) sets.rows_are;
        heads = record {
          kept = [];
          rows_are = hs;
          rises = tt;
          back = tt;
          unique = subst (λ rows. HasUniqueKeys text_cmp head_key (map head_read rows)) (sym hs) tt;
        };
        messages = record {
          kept = [];
          rows_are = ms;
          rises = tt;
          back = tt;
          unique =
              subst (λ rows. HasUniqueKeys message_cmp message_key (map message_read rows)) (sym ms)
              tt;
        };
        recipients = record {
          kept = [];
          rows_are = rs;
          rises = tt;
          back = tt;
          unique =
              subst (λ rows. HasUniqueKeys recipient_cmp recipient_key (map recipient_read rows))
              (sym rs) tt;
        };
        lines = record {
          kept = [];
          rows_are = ls;
          rises = tt;
          back = tt;
          unique =
              subst (λ rows. HasUniqueKeys lines_cmp line_row_key (map line_read rows)) (sym ls) tt;
        };
        notices = record {
          kept = [];
          rows_are = ns;
          rises = tt;
          back = tt;
          unique =
              subst (λ rows. HasUniqueKeys notice_cmp notice_key (map notice_read rows))
              (sym ns) tt;
        };
        holds = record {
          kept = [];
          rows_are = os;
          rises = tt;
          back = tt;
          unique =
              subst (λ rows. HasUniqueKeys message_cmp hold_key (map hold_read rows)) (sym os) tt;
        };
        ends = record {
          kept = [];
          rows_are = es;
          rises = tt;
          back = tt;
          unique = subst (λ rows. HasUniqueKeys end_cmp end_key (map end_read rows)) (sym es) tt;
        };
        marks = record {
          kept = [];
          rows_are = ks;
          rises = tt;
          back = tt;
          unique = subst (λ rows. HasUniqueKeys mark_cmp mark_key (map mark_read rows)) (sym ks) tt;
        };
      };
      tables = no_rows_of new.now.trees hs ms rs ls ks ns os es;
      is_open = w.shown.is_open;
      was_open = w.shown.was_open;
      mode = w.shown.mode;
      committed = λ within. w.shown.committed_is ∙ ap (λ b. cond b old.committed new.now) within;
    }

stamp_here : (old : State) → old.now.schema ≡ desk_schema →
    may_end (Rattle.sqlite.proofs.Callers.command_of (understood old.now.schema stamp_text)) ≡ false
stamp_here old has = subst
    (λ s. may_end (Rattle.sqlite.proofs.Callers.command_of (understood s stamp_text)) ≡ false)
    (sym has) (ap may_end stamp_is)

pub stamp_keeps : (old new : State) (r : Result ℕ Error) → old.now.schema ≡ desk_schema →
    IsTrue old.in_transaction → Survives old new (CommitsBy stamp_text [] old) →
    (HasCleanDisk new → Executes stamp_text [] old new r) → KeepsAll old new
stamp_keeps old new (Ok count) has within survives h = record {
  kept = λ clean.
      let w = runs_as stamp_text [] old new desk_schema has _ stamp_is stamp_plain count (h clean)
      in
      record {
        was_open = λ _. w.shown.was_open;
        committed = λ _. w.shown.committed_is
            ∙ ap (λ b. cond b old.committed new.now) within;
      };
  quiet = survives.clean;
  stops = write_leaves_no_more old new stamp_text [] (stamp_here old has) within survives;
}
stamp_keeps old new (Err e) has within survives h = record {
  kept = λ clean. left_keeps old new (execute_left old new stamp_text [] e (h clean));
  quiet = survives.clean;
  stops = write_leaves_no_more old new stamp_text [] (stamp_here old has) within survives;
}

-- ---- SELECT shows the versions, in some order

every : (ys : List Row) → AllByRecursion (λ x. true ≡ true) ys
every [] = tt
every (y ∷ ys) = (refl, every ys)

itself : (ys : List Row) → ys ≡ map (λ r. r) ys
itself [] = refl
itself (y ∷ ys) = ap (λ l. y ∷ l) (itself ys)

pub versions_shown : (db : Database) (rows : List Row) →
    Answers db (record { lets = []; body = read_query }) [] rows →
    IsPermutation (map (λ v. v ∷ []) (versions_in db)) rows
versions_shown db rows answers =
    let a : IsAnswer read_query (overlay db.trees []) [] rows = answers.answer Null in
    let same = answer_is read_query (overlay db.trees []) 0 [] (λ (r : Row). r) (db.trees 0)
    (λ r. true) refl refl refl (itself (db.trees 0)) (λ r. refl) rows a in
    let whole : filter (λ (r : Row). true) (db.trees 0) ≡ db.trees 0 =
    filter_all (λ r. true) (db.trees 0) (every (db.trees 0)) in
    subst₂ IsPermutation
    (map-map (λ (o : Output). o.1) _ (filter (λ (r : Row). true) (db.trees 0))
    ∙ ap (map (λ r. column r 1 ∷ [])) whole ∙ sym
    (map-map (λ v. v ∷ []) (λ r. column r 1) (db.trees 0)))
    (sym a.shown)
    (IsPermutation-map (λ (o : Output). o.1) _ _ same)

alone : (vs : List Value) (row : Row) → map (λ v. v ∷ []) vs ≡ row ∷ [] → column row 0 ≡ Int (pos 3)
    → vs ≡ Int (pos 3) ∷ []
alone [] row e is = absurd (let k = e in cc)
alone (v ∷ []) row e is =
    let same : v ∷ [] ≡ row = let k = e in cc in
    let value : v ≡ Int (pos 3) = ap (λ r. column r 0) same ∙ is in
    ap (λ x. x ∷ []) value
alone (v ∷ w ∷ more) row e is = absurd (let k = e in cc)

-- one row with 3 is shown where the one version is 3
pub one_shown : (db : Database) (rows : List Row) →
    IsPermutation (map (λ v. v ∷ []) (versions_in db)) rows → ShowsOne rows → IsVersioned db
one_shown db rows same one =
    let back : IsPermutation (one.0 ∷ []) (map (λ v. v ∷ []) (versions_in db)) =
    subst (λ l. IsPermutation l (map (λ v. v ∷ []) (versions_in db))) one.1
    (IsPermutation-sym _ _ same) in
    alone (versions_in db) one.0 (one_permutation one.0 _ back) one.2

pub one_is_shown : (db : Database) (rows : List Row) →
    IsPermutation (map (λ v. v ∷ []) (versions_in db)) rows → IsVersioned db → ShowsOne rows
one_is_shown db rows same is = (
  Int (pos 3) ∷ [],
  one_permutation _ _ (subst (λ vs. IsPermutation (map (λ v. v ∷ []) vs) rows) is same),
  refl,
)

pub read_shows : (old new : State) (rows : List Row) → HasVersions old.now →
    Shown read_text [] old new rows → ShowVersions old.now rows × IsUnchanged old new
read_shows old new rows (inl has) h = (
  versions_shown old.now rows (reads_as read_text [] old new desk_schema has _ read_is read_plain
      read_listed rows h),
  shown_unchanged old new read_text _ rows (subst (λ s. IsPlain (understood s read_text)) (sym has)
      read_plain) h,
)
read_shows old new rows (inr has) h = (
  versions_shown old.now rows (reads_as read_text [] old new version_alone has _ alone_is
      alone_plain alone_listed rows h),
  shown_unchanged old new read_text _ rows (subst (λ s. IsPlain (understood s read_text)) (sym has)
      alone_plain) h,
)

plain_here : (old : State) → HasVersions old.now → IsPlain (understood old.now.schema read_text)
plain_here old (inl has) = subst (λ s. IsPlain (understood s read_text)) (sym has) read_plain
plain_here old (inr has) = subst (λ s. IsPlain (understood s read_text)) (sym has) alone_plain

pub read_keeps : {X : Type 0} (old new : State) (result : Result X Error) →
    Survives old new (CommitsShowing read_text [] old) →
    (HasCleanDisk new → HasVersions old.now → OnErr result (KeepsCommit old new)) →
    KeepsReading old new result
read_keeps old new result survives h = record {
  kept = h;
  quiet = survives.clean;
  stops = λ has. query_leaves_no_more old new read_text [] (plain_here old has) survives;
}

pub tells_one : (old new : State) (rows : List Row) (told : Bool) → ShowVersions old.now rows
    × IsUnchanged old new → (IsTrue told → ShowsOne rows) → (ShowsOne rows → IsTrue told) →
    TellsWhether told (IsVersioned old.now) old new
tells_one old new rows told shown only all = record {
  only = λ is. one_shown old.now rows shown.0 (only is);
  all = λ is. all (one_is_shown old.now rows shown.0 is);
  same = shown.1;
}

nothing_in : (ys : List Row) → map (λ v. v ∷ []) (map (λ (r : Row). column r 1) ys) ≡ [] → ys ≡ []
nothing_in [] e = refl
nothing_in (y ∷ ys) e = absurd (let k = e in cc)

none_shown : (xs : List Row) → IsPermutation xs [] → xs ≡ []
none_shown [] h = refl
none_shown (x ∷ xs) h = absurd (let k = length_permutation _ _ h in omega (arith, k))

none_back : (ys : List Row) → IsPermutation [] ys → ys ≡ []
none_back ys h = none_shown ys (IsPermutation-sym _ _ h)

pub tells_none : (old new : State) (rows : List Row) (told : Bool) → ShowVersions old.now rows
    × IsUnchanged old new → (IsTrue told → rows ≡ []) → (rows ≡ [] → IsTrue told) →
    TellsWhether told (old.now.trees 0 ≡ []) old new
tells_none old new rows told shown only all = record {
  only = λ is. nothing_in (old.now.trees 0) (none_shown _
      (subst (IsPermutation (map (λ v. v ∷ []) (versions_in old.now))) (only is) shown.0));
  all = λ is. all (none_back rows (subst (λ ts. IsPermutation
      (map (λ v. v ∷ []) (map (λ (r : Row). column r 1) ts)) rows) is shown.0));
  same = shown.1;
}
