-- What DELETE and INSERT do to a table with no foreign key.
use Rattle.std.proofs.Common.{◌≡◌, ◌⊎◌, inl, inr, ℕ, ℤ, Bool, true, false, cond, List, [], ◌∷◌}
use Rattle.std.proofs.Common.{◌++◌, map, filter, slice_get, fold, Some, None, Ok, Err, Result, refl}
use Rattle.std.proofs.Common.{sym, ap, ◌∙◌, subst, subst₂, IsPermutation, length, ◌/◌, drop, ◌+ℤ◌}
use Rattle.std.proofs.Common.{pos, ap₂, MatchBool, is_lt, int_cmp, Option, unwrap_or}
use Rattle.sqlite.specs.declared.error.Error.{Error}
use Rattle.std.specs.List.{list_all}
use Rattle.sqlite.specs.declared.types.Value.TheVariants.{Null, Int}
use Rattle.sqlite_value.specs.declared.value.Value.{Value}
use Rattle.sqlite.specs.Order.{Row}
use Rattle.sqlite.specs.Term.{Term, col, holds, eval_all}
use Rattle.sqlite.specs.Query.{IsAnswer, Output}
use Rattle.sqlite.specs.Program.{overlay}
use Rattle.sqlite.specs.Table.{Table}
use Rattle.sqlite.specs.Command.TheVariants.{Insert, Update, Delete}
use Rattle.sqlite.specs.Source.TheVariants.{Values}
use Rattle.sqlite.specs.Tree.{Trees, rowid}
use Rattle.sqlite.specs.Edit.{edit_of, edited, without_all, put_all, numbered, id_in, next_rowid}
use Rattle.sqlite.specs.Rowids.TheVariants.{Chosen, Given}
use Rattle.sqlite_rules.specs.Calls.{ids_of}
use Rattle.sqlite.specs.Effect.{Database}
use Rattle.sqlite.specs.Rows.{Written, Task, stamped, rowids_for, count_of, CountsIn, sequence}
use Rattle.sqlite.specs.Rows.{higher}
use Rattle.std.proofs.lemmas.List.Folds.{fold-map}
use Rattle.sqlite.specs.Ops.{is_null}
use Rattle.sqlite.specs.Tree.{put_row}
use Rattle.sqlite.specs.Edit.{with_rowid}
use Rattle.sqlite.specs.Rowids.TheVariants.{Above}
use Rattle.sqlite.specs.Effect.{value_rows}
use Rattle.sqlite.specs.Cast.{cast, cast_row}
use Rattle.sqlite.specs.Kind.TheVariants.{Integer}
use Rattle.sqlite.specs.Ops.{unary}
use Rattle.sqlite.specs.Does.{Tally, Does, AtPlace, OnRows}
use Rattle.sqlite_schema.specs.declared.schema.Keys.TheVariants.{Enforced}
use Rattle.sqlite.specs.State.{State, mode_of, Writes}
use Rattle.sqlite.proofs.Callers.{one_step}
use Rattle.sqlite_keyed.specs.Keyed.{IsKeyedBy, next_key}
use Rattle.sqlite_keyed.specs.Lists.{update_where, delete_where}
use Rattle.sqlite_keyed.proofs.WriteLemmas.{removes_delete}
use Rattle.std.proofs.lemmas.List.{length-map}
use Rattle.sqlite_keyed.proofs.ListLemmas.{map-map, map_same}
use Rattle.sqlite_typed.proofs.RowLemmas.{deletes-map, puts-map}
use Rattle.std.proofs.lemmas.List.Sorted.{IsPermutation-map}
use Rattle.sqlite.specs.Schema.{Schema}
use Rattle.sqlite_rules.specs.Action.{works}
use Rattle.sqlite_rules.specs.Edit.{taken_by}
use Rattle.hq_keyed.specs.Changed.{Sets}
use Rattle.hq_keyed.proofs.Select.{query_of}
use Rattle.hq_keyed.proofs.Select.{answer_is, one_order}
use Rattle.hq_keyed.proofs.Rows.{removed, all_below, put_last, moved}

-- a part that gave a value did not stop on the way
pub went : {B E R : Type 0} {b : B} {Stops : E → Type 0} →
    ((stop : E) × Stops stop × (Ok b ≡ Err stop)) ⊎ R → R
went (inl stopped) = absurd (let e = stopped.2 in cc)
went (inr on) = on

pub same_value : {B E : Type 0} {a b : B} → ◌≡◌ {A = Result B E} (Ok a) (Ok b) → a ≡ b
same_value e = cc

either : (b : Bool) (x : Value) → cond b x x ≡ x
either true x = refl
either false x = refl

pub cast_null : cast Integer Null ≡ Null
unfolding unary
cast_null = either _ Null

-- an integer is stored as it is
pub cast_int : (n : ℤ) → cast Integer (Int n) ≡ Int n
unfolding unary
cast_int n = either _ (Int n)

module _ {X : Type 0} (encode : ℤ × X → Row) (numbered_by : (k : ℤ × X) →
    rowid (encode k) ≡ Int k.0) where
  abbrev key : ℤ × X → ℤ
  key k = k.0

  -- a row more at the end, under the next number
  pub put_is : (rows : List Row) (xs : List (ℤ × X)) (made : Row) (y : X) → rows ≡ map encode xs →
      IsKeyedBy key xs → rowid made ≡ Null → ((n : ℤ) → Int n ∷ drop 1 made ≡ encode (n, y))
      → put_row (with_rowid Chosen rows made) rows ≡ map encode (xs ++ (next_key key xs, y) ∷ [])
  put_is rows xs made y stored keyed null row =
      let next : next_rowid rows ≡ next_key key xs =
      ap next_rowid stored ∙ fold-map (λ _ (r : Row). id_in (rowid r) +ℤ pos 1) encode (pos 1) xs
      ∙ (λ i. fold (λ _ (k : ℤ × X). id_in (numbered_by k i) +ℤ pos 1) (pos 1) xs) in
      let new_row : with_rowid Chosen rows made ≡ encode (next_key key xs, y) =
      ap (λ v. cond (is_null v) (Int (next_rowid rows) ∷ drop 1 made) made) null
      ∙ row (next_rowid rows) ∙ ap (λ n. encode (n, y)) next in
      ap₂ put_row new_row stored ∙ puts-map key encode numbered_by ((next_key key xs, y) ∷ []) xs
      ∙ ap (map encode) (put_last key xs (next_key key xs, y) (all_below key xs keyed))

module _ {X : Type 0} (schema : Schema) (encode : ℤ × X → Row) (numbered_by : (k : ℤ × X) →
    rowid (encode k) ≡ Int k.0) (at : ℕ) (table : Table)
    (listed : slice_get schema.tables at ≡ Some table) (plain_tree : (db : Trees) →
    overlay db [] table.tree ≡ db table.tree)
    (unlinked : (olds news : List Row) → works schema Enforced 0 table.tree olds news ≡ []) where
  -- DELETE takes out the rows that pass WHERE
  pub deleted : (filter_terms : List Term) (old new : State) (text : List ℕ) (params : Row)
      (count : ℕ) (xs : List (ℤ × X)) (p : ℤ × X → Bool)
      → ((k : ℤ × X) → list_all (holds (params ∷ encode k ∷ [])) filter_terms ≡ p k)
      → old.now.schema ≡ schema → old.now.trees table.tree ≡ map encode xs → IsKeyedBy (λ k. k.0) xs
      → Writes old new None (Delete at (record {
        lets = [];
        body = query_of table.tree filter_terms (col 1 0 ∷ []);
      })) text params count
      → Sets schema old.now new.now table.tree (map encode (delete_where p xs))
  deleted filter_terms old new text params count xs p tests has stored keyed w =
      let q = query_of table.tree filter_terms (col 1 0 ∷ []) in
      let db = old.now.trees in
      let command = Delete at (record { lets = []; body = q }) in
      let does = subst (λ k. Does old.step_limit (mode_of old) params
      (record old.now { schema = k }) text None command (Ok (w.tally, new.now))) has w.changed
      in
      let task = λ (t : Table). let it : Task =
      record {
        limit = old.step_limit;
        keys = Enforced;
        schema = schema;
        table = t;
        params = params;
      } in it in
      let on = subst (λ o. AtPlace (λ t. OnRows (task t) (mode_of old) None command db) o
      (Ok (w.tally, new.now))) listed does in
      let done = went on in
      let now = ap (λ (r : Tally × Database). r.1) (same_value (went (went done.2).2).2) in
      let given = went done.1 in
      let written = went given.2 in
      let trees : done.0.trees ≡ written.0 =
      ap (λ (it : Written). it.trees) (same_value written.2) in
      let applies = one_step schema Enforced db written.0
      (edit_of db table (ids_of given.0) Given 0 [])
      (unlinked (taken_by db (edit_of db table (ids_of given.0) Given 0 []))
      (edit_of db table (ids_of given.0) Given 0 []).news) written.1 in
      let a : IsAnswer q (overlay db []) params given.0 = given.1.answer Null in
      let same = answer_is q (overlay db []) table.tree params encode xs p refl refl refl
      (plain_tree db ∙ stored) tests given.0 a in
      let id = λ (r : Row). id_in (rowid r) in
      let ids : IsPermutation (map (λ (k : ℤ × X). k.0) (filter p xs)) (ids_of given.0) =
      subst₂ IsPermutation
      (map-map (λ (o : Output). id o.1) _ (filter p xs) ∙ map_same _ (λ (k : ℤ × X). k.0)
      (λ k. ap id_in (numbered_by k)) (filter p xs))
      (sym (ap ids_of a.shown ∙ map-map id (λ (o : Output). o.1) a.ordered))
      (IsPermutation-map (λ (o : Output). id o.1) _ _ same) in
      let rows : written.0 table.tree ≡ map encode (delete_where p xs) =
      applies.rows ∙ ap (λ l. without_all l (ids_of given.0)) stored
      ∙ deletes-map (λ k. k.0) encode numbered_by (ids_of given.0) xs
      ∙ ap (map encode) (removed (λ k. k.0) p (ids_of given.0) xs keyed ids) in
      record {
        schema_is = ap (λ (d : Database). d.schema) now;
        rows_are = ap (λ (d : Database). d.trees table.tree) now
            ∙ ap (λ (t : Trees). t table.tree) trees ∙ rows;
        others = λ t apart none. ap (λ (d : Database). d.trees t) now
            ∙ ap (λ (u : Trees). u t) trees ∙ applies.others t apart none;
      }

  -- INSERT adds one row at the end, under the next number
  pub inserted : (terms : List Term) (width : ℕ) (old new : State) (text : List ℕ) (params : Row)
      (count : ℕ) (xs : List (ℤ × X)) (x : X) (source : Row)
      → table.is_counted ≡ false
      → value_rows (stamped table params) width (length terms / width) terms ≡ source ∷ []
      → rowid (cast_row table source) ≡ Null
      → ((n : ℤ) → Int n ∷ drop 1 (cast_row table source) ≡ encode (n, x))
      → old.now.schema ≡ schema → old.now.trees table.tree ≡ map encode xs → IsKeyedBy (λ k. k.0) xs
      → Writes old new None (Insert at (Values terms width)) text params count
      → Sets schema old.now new.now table.tree (map encode (xs ++ (next_key (λ k. k.0) xs, x) ∷ []))
  inserted terms width old new text params count xs x source uncounted sources null row has stored
      keyed w =
      let db = old.now.trees in
      let command = Insert at (Values terms width) in
      let does = subst (λ k. Does old.step_limit (mode_of old) params
      (record old.now { schema = k }) text None command (Ok (w.tally, new.now))) has w.changed
      in
      let task = λ (t : Table). let it : Task =
      record {
        limit = old.step_limit;
        keys = Enforced;
        schema = schema;
        table = t;
        params = params;
      } in it in
      let on = subst (λ o. AtPlace (λ t. OnRows (task t) (mode_of old) None command db) o
      (Ok (w.tally, new.now))) listed does in
      let done = went on in
      let now = ap (λ (r : Tally × Database). r.1) (same_value (went (went done.2).2).2) in
      let given = went done.1 in
      let counter = went given.2 in
      let written = went counter.2 in
      let counts = went written.2 in
      let top = fold higher (count_of counter.0)
      (edit_of db table [] (rowids_for table (count_of counter.0)) 0 given.0).news in
      let trees : done.0.trees ≡ written.0 = ap (λ (it : Written). it.trees) (same_value counts.2)
      ∙ same_value (subst (λ b. MatchBool
      (cond b (is_lt (int_cmp (count_of counter.0) top)) false)
      (CountsIn (task table) written.0 counter.0 top (sequence schema) (Ok counts.0))
      (◌≡◌ {A = Result Trees (Option Error)} (Ok counts.0) (Ok written.0))) uncounted counts.1)
      in
      let rowids = rowids_for table (count_of counter.0) in
      let applies = one_step schema Enforced db written.0 (edit_of db table [] rowids 0 given.0)
      (unlinked (taken_by db (edit_of db table [] rowids 0 given.0))
      (edit_of db table [] rowids 0 given.0).news) written.1 in
      let chosen : rowids ≡ Chosen = ap (λ b. cond b (Above (count_of counter.0)) Chosen) uncounted
      in
      let edit : edited db (edit_of db table [] rowids 0 given.0) ≡ edited db
      (edit_of db table [] Chosen 0 (source ∷ [])) =
      ap (λ how. edited db (edit_of db table [] how 0 given.0)) chosen
      ∙ ap (λ all. edited db (edit_of db table [] Chosen 0 all)) (given.1.1 ∙ sources) in
      let put = put_is encode numbered_by (db table.tree) xs (cast_row table source) x stored keyed
      null row in
      record {
        schema_is = ap (λ (d : Database). d.schema) now;
        rows_are = ap (λ (d : Database). d.trees table.tree) now
            ∙ ap (λ (t : Trees). t table.tree) trees ∙ applies.rows ∙ edit ∙ put;
        others = λ t apart none. ap (λ (d : Database). d.trees t) now
            ∙ ap (λ (u : Trees). u t) trees ∙ applies.others t apart none;
      }

  given_alone : (rows rs : List Row) → numbered Given rows rs ≡ rs
  given_alone rows [] = refl
  given_alone rows (r ∷ rs) = ap (λ l. r ∷ l) (given_alone (put_row r rows) rs)

  -- UPDATE changes the row that passes WHERE in its place, and tells how many there were
  pub updated : (filter_terms project : List Term) (old new : State) (text : List ℕ) (params : Row)
      (count : ℕ) (xs : List (ℤ × X)) (p : ℤ × X → Bool) (f : X → X)
      → ((k : ℤ × X) → list_all (holds (params ∷ encode k ∷ [])) filter_terms ≡ p k)
      → ((k : ℤ × X) → id_in (rowid (eval_all project (params ∷ encode k ∷ []))) ≡ k.0)
      → ((k : ℤ × X) → cast_row table (drop 1 (eval_all project (params ∷ encode k ∷ []))) ≡ encode
      (k.0, f k.1))
      → (filter p xs ≡ []) ⊎ ((x : ℤ × X) × (filter p xs ≡ x ∷ []))
      → old.now.schema ≡ schema → old.now.trees table.tree ≡ map encode xs → IsKeyedBy (λ k. k.0) xs
      → Writes old new None (Update at (record {
        lets = [];
        body = query_of table.tree filter_terms project;
      })) text params count
      → Sets schema old.now new.now table.tree (map encode (update_where p (λ k. (k.0, f k.1)) xs))
      × (count ≡ length (filter p xs))
  updated filter_terms project old new text params count xs p f tests ids_are rows_are one has
      stored keyed w =
      let q = query_of table.tree filter_terms project in
      let db = old.now.trees in
      let command = Update at (record { lets = []; body = q }) in
      let does = subst (λ k. Does old.step_limit (mode_of old) params
      (record old.now { schema = k }) text None command (Ok (w.tally, new.now))) has w.changed
      in
      let task = λ (t : Table). let it : Task =
      record {
        limit = old.step_limit;
        keys = Enforced;
        schema = schema;
        table = t;
        params = params;
      } in it in
      let on = subst (λ o. AtPlace (λ t. OnRows (task t) (mode_of old) None command db) o
      (Ok (w.tally, new.now))) listed does in
      let done = went on in
      let both = same_value (went (went done.2).2).2 in
      let now = ap (λ (r : Tally × Database). r.1) both in
      let given = went done.1 in
      let written = went given.2 in
      let out_is = same_value written.2 in
      let trees : done.0.trees ≡ written.0 = ap (λ (it : Written). it.trees) out_is in
      let edit = edit_of db table (ids_of given.0) Given 1 given.0 in
      let applies = one_step schema Enforced db written.0 edit
      (unlinked (taken_by db edit) edit.news) written.1 in
      let a : IsAnswer q (overlay db []) params given.0 = given.1.answer Null in
      let same = answer_is q (overlay db []) table.tree params encode xs p refl refl refl
      (plain_tree db ∙ stored) tests given.0 a in
      let fs = filter p xs in
      let show = λ (k : ℤ × X). eval_all project (params ∷ encode k ∷ []) in
      let rows : given.0 ≡ map show fs = a.shown
      ∙ ap (map (λ (o : Output). o.1)) (one_order _ fs a.ordered one same) ∙ map-map _ _ fs in
      let move : ℤ × X → ℤ × X = λ k. (k.0, f k.1) in
      let key = λ (k : ℤ × X). k.0 in
      let ids : ids_of given.0 ≡ map key fs = ap ids_of rows ∙ map-map _ _ fs
      ∙ map_same _ key ids_are fs in
      let news : edit.news ≡ map encode (map move fs) =
      given_alone _ _ ∙ ap (map (λ s. cast_row table (drop 1 s))) rows ∙ map-map _ show fs
      ∙ map_same _ (λ k. encode (move k)) rows_are fs ∙ sym (map-map encode move fs) in
      let left : without_all (db table.tree) (ids_of given.0) ≡ map encode (delete_where p xs) =
      ap₂ without_all stored ids ∙ deletes-map key encode numbered_by (map key fs) xs
      ∙ ap (map encode) (removes_delete key p xs keyed) in
      let put : edited db edit ≡ map encode (update_where p move xs) =
      ap₂ put_all left news ∙ fold-map _ encode (map encode (delete_where p xs)) (map move fs)
      ∙ puts-map key encode numbered_by (map move fs) (delete_where p xs)
      ∙ ap (map encode) (moved key p move (λ k. refl) xs keyed) in
      let sets : Sets schema old.now new.now table.tree (map encode (update_where p move xs)) =
      record {
        schema_is = ap (λ (d : Database). d.schema) now;
        rows_are = ap (λ (d : Database). d.trees table.tree) now
            ∙ ap (λ (t : Trees). t table.tree) trees ∙ applies.rows ∙ put;
        others = λ t apart none. ap (λ (d : Database). d.trees t) now
            ∙ ap (λ (u : Trees). u t) trees ∙ applies.others t apart none;
      } in (
        sets,
        w.counted ∙ ap (λ (r : Tally × Database). unwrap_or r.0.rows 0) both
            ∙ ap (λ (it : Written). length it.rows) out_is ∙ ap length news
            ∙ length-map (map move fs) encode ∙ length-map fs move,
      )
