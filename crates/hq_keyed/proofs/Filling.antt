-- What INSERT .. SELECT does to a table with no row, no foreign key and no count.
use Rattle.std.proofs.Common.{◌≡◌, ℕ, ℤ, false, cond, List, [], ◌∷◌, ◌++◌, map}
use Rattle.std.proofs.Common.{append-nil, append_assoc, fold, slice_get, Some, None, Ok, Result}
use Rattle.std.proofs.Common.{Option, refl, sym, ap, ◌∙◌, subst, length, drop, suc, MatchBool}
use Rattle.std.proofs.Common.{is_lt, int_cmp, unwrap_or}
use Rattle.std.proofs.lemmas.List.{length-map, map-append}
use Rattle.sqlite.specs.declared.error.Error.{Error}
use Rattle.sqlite.specs.declared.types.Value.TheVariants.{Null, Int}
use Rattle.sqlite.specs.Order.{Row}
use Rattle.sqlite.specs.Cast.{cast_row}
use Rattle.sqlite.specs.Command.TheVariants.{Insert}
use Rattle.sqlite.specs.Source.TheVariants as source
use Rattle.sqlite.specs.Does.{Tally, Does, AtPlace, OnRows}
use Rattle.sqlite.specs.Edit.{edit_of, edited, put_all, numbered, with_rowid}
use Rattle.sqlite.specs.Effect.{Database}
use Rattle.sqlite.specs.Rowids.{Rowids}
use Rattle.sqlite.specs.Rowids.TheVariants.{Chosen, Above}
use Rattle.sqlite.specs.Rows.{Written, Task, rowids_for, count_of, CountsIn, sequence, higher}
use Rattle.sqlite.specs.Schema.{Schema}
use Rattle.sqlite.specs.State.{State, mode_of, Writes}
use Rattle.sqlite.specs.Table.{Table}
use Rattle.sqlite.specs.Tree.{Trees, rowid, put_row}
use Rattle.sqlite.proofs.Callers.{one_step}
use Rattle.sqlite_keyed.specs.Keyed.{IsKeyedBy, next_key}
use Rattle.sqlite_rules.specs.Action.{works}
use Rattle.sqlite_rules.specs.Edit.{taken_by}
use Rattle.sqlite_schema.specs.declared.schema.Keys.TheVariants.{Enforced}
use Rattle.sqlite_schema.specs.declared.program.Program.{Program}
use Rattle.hq_keyed.specs.Filled.{added, Filled}
use Rattle.hq_keyed.proofs.Rows.{all_below, rises_on}
use Rattle.hq_keyed.proofs.Writes.{put_is, went, same_value}

-- ---- rows under the next numbers, one after another

abbrev key : {X : Type 0} → ℤ × X → ℤ
key k = k.0

pub added_typed : {X : Type 0} (xs : List (ℤ × X)) (ys : List X) →
    map (λ k. k.1) (added xs ys) ≡ map (λ k. k.1) xs ++ ys
added_typed xs [] = sym (append-nil (map (λ k. k.1) xs))
added_typed {X} xs (y ∷ ys) =
    added_typed (xs ++ (next_key key xs, y) ∷ []) ys ∙ ap (λ l. l ++ ys)
    (map-append (λ (k : ℤ × X). k.1) xs ((next_key key xs, y) ∷ []))
    ∙ append_assoc (map (λ (k : ℤ × X). k.1) xs) (y ∷ []) ys

pub added_rises : {X : Type 0} (xs : List (ℤ × X)) (ys : List X) → IsKeyedBy key xs →
    IsKeyedBy key (added xs ys)
added_rises xs [] keyed = keyed
added_rises xs (y ∷ ys) keyed = added_rises (xs ++ (next_key key xs, y) ∷ []) ys
    (rises_on key xs (next_key key xs, y) keyed (all_below key xs keyed))

module _ {X : Type 0} (encode : ℤ × X → Row) (numbered_by : (k : ℤ × X) →
    rowid (encode k) ≡ Int k.0) where
  pub all_put : {Z : Type 0} (made : Z → Row) (typed : Z → X) → ((z : Z) → rowid (made z) ≡ Null) →
      ((z : Z) (n : ℤ) → Int n ∷ drop 1 (made z) ≡ encode (n, typed z))
      → (zs : List Z) (rows : List Row) (xs : List (ℤ × X)) → rows ≡ map encode xs →
      IsKeyedBy key xs → put_all rows (numbered Chosen rows (map made zs)) ≡ map encode
      (added xs (map typed zs))
  all_put made typed null row [] rows xs stored keyed = stored
  all_put made typed null row (z ∷ zs) rows xs stored keyed =
      all_put made typed null row zs (put_row (with_rowid Chosen rows (made z)) rows) (xs
      ++ (next_key key xs, typed z) ∷ [])
      (put_is encode numbered_by rows xs (made z) (typed z) stored keyed (null z) (row z))
      (rises_on key xs (next_key key xs, typed z) keyed (all_below key xs keyed))

-- ---- the statement

length_numbered : (how : Rowids) (rows made : List Row) →
    length (numbered how rows made) ≡ length made
length_numbered how rows [] = refl
length_numbered how rows (r ∷ rs) = ap suc
    (length_numbered how (put_row (with_rowid how rows r) rows) rs)

module _ (schema : Schema) (at : ℕ) (table : Table)
    (listed : slice_get schema.tables at ≡ Some table)
    (unlinked : (olds news : List Row) → works schema Enforced 0 table.tree olds news ≡ [])
    (uncounted : table.is_counted ≡ false) where
  pub filled : (p : Program) (old new : State) (text : List ℕ) (params : Row) (count : ℕ) →
      old.now.schema ≡ schema → old.now.trees table.tree ≡ []
      → Writes old new None (Insert at (source.Query p)) text params count →
      Filled schema table p params count old new
  filled p old new text params count has empty w =
      let db = old.now.trees in
      let command = Insert at (source.Query p) in
      let does = subst (λ k. Does old.step_limit (mode_of old) params
      (record old.now { schema = k }) text None command (Ok (w.tally, new.now))) has w.changed
      in
      let task = λ (t : Table). let it : Task =
      record {
        limit = old.step_limit;
        keys = Enforced;
        schema = schema;
        table = t;
        params = params;
      } in it in
      let on = subst (λ o. AtPlace (λ t. OnRows (task t) (mode_of old) None command db) o
      (Ok (w.tally, new.now))) listed does in
      let done = went on in
      let both = same_value (went (went done.2).2).2 in
      let now = ap (λ (r : Tally × Database). r.1) both in
      let given = went done.1 in
      let counter = went given.2 in
      let written = went counter.2 in
      let counts = went written.2 in
      let rowids = rowids_for table (count_of counter.0) in
      let edit = edit_of db table [] rowids 0 given.0 in
      let top = fold higher (count_of counter.0) edit.news in
      let out_is = same_value counts.2 in
      let trees : done.0.trees ≡ written.0 = ap (λ (it : Written). it.trees) out_is
      ∙ same_value (subst (λ b. MatchBool
      (cond b (is_lt (int_cmp (count_of counter.0) top)) false)
      (CountsIn (task table) written.0 counter.0 top (sequence schema) (Ok counts.0))
      (◌≡◌ {A = Result Trees (Option Error)} (Ok counts.0) (Ok written.0))) uncounted counts.1)
      in
      let applies = one_step schema Enforced db written.0 edit
      (unlinked (taken_by db edit) edit.news) written.1 in
      let chosen : rowids ≡ Chosen = ap (λ b. cond b (Above (count_of counter.0)) Chosen) uncounted
      in
      let put : edited db edit ≡ put_all [] (numbered Chosen [] (map (cast_row table) given.0)) =
      ap (λ how. edited db (edit_of db table [] how 0 given.0)) chosen
      ∙ ap (λ rows. put_all rows (numbered Chosen rows (map (cast_row table) given.0))) empty in
      record {
        rows = given.0;
        answers = given.1;
        sets = record {
          schema_is = ap (λ (d : Database). d.schema) now;
          rows_are = ap (λ (d : Database). d.trees table.tree) now
              ∙ ap (λ (t : Trees). t table.tree) trees ∙ applies.rows ∙ put;
          others = λ t apart none. ap (λ (d : Database). d.trees t) now
              ∙ ap (λ (u : Trees). u t) trees ∙ applies.others t apart none;
        };
        count_is = w.counted ∙ ap (λ (r : Tally × Database). unwrap_or r.0.rows 0) both
            ∙ ap (λ (it : Written). length it.rows) out_is
            ∙ length_numbered rowids _ (map (λ s. cast_row table (drop 0 s)) given.0)
            ∙ length-map given.0 (λ s. cast_row table (drop 0 s));
      }

  -- the schema stays, whatever rows were there
  pub filled_schema : (p : Program) (old new : State) (text : List ℕ) (params : Row) (count : ℕ) →
      old.now.schema ≡ schema
      → Writes old new None (Insert at (source.Query p)) text params count → new.now.schema ≡ schema
  filled_schema p old new text params count has w =
      let db = old.now.trees in
      let command = Insert at (source.Query p) in
      let does = subst (λ k. Does old.step_limit (mode_of old) params
      (record old.now { schema = k }) text None command (Ok (w.tally, new.now))) has w.changed
      in
      let task = λ (t : Table). let it : Task =
      record {
        limit = old.step_limit;
        keys = Enforced;
        schema = schema;
        table = t;
        params = params;
      } in it in
      let on = subst (λ o. AtPlace (λ t. OnRows (task t) (mode_of old) None command db) o
      (Ok (w.tally, new.now))) listed does in
      let done = went on in
      ap (λ (r : Tally × Database). r.1.schema) (same_value (went (went done.2).2).2)
