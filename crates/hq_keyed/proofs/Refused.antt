-- An INSERT that a unique index refused: it found a row at its key, and changed nothing.
use Rattle.std.proofs.Common.{◌≡◌, ℕ, zero, suc, ℤ, true, false, cond, List}
use Rattle.std.proofs.Common.{[], ◌∷◌, find, drop, length, ◌/◌, slice_get}
use Rattle.std.proofs.Common.{option_map, Option, Some, None, Result, Ok, Err, inl, inr, sym}
use Rattle.std.proofs.Common.{ap, ◌∙◌, subst, arith, append-nil, length-append}
use Rattle.std.specs.Prelude.{is_some}
use Rattle.std.specs.Ordering.{eq_by_cmp}
use Rattle.std.specs.FinMap.{get}
use Rattle.std.proofs.lemmas.Bool.{cases_Bool}
use Rattle.sqlite.specs.declared.types.Value.TheVariants.{Null, Int}
use Rattle.sqlite.specs.declared.error.Error.{Error}
use Rattle.sqlite.specs.declared.error.Error.TheVariants.{SqliteFailure}
use Rattle.sqlite.specs.declared.error.ErrorCode.TheVariants.{ConstraintViolation}
use Rattle.sqlite.specs.Cast.{cast_row}
use Rattle.sqlite.specs.Clock.{timed}
use Rattle.sqlite.specs.Command.{Command}
use Rattle.sqlite.specs.Command.TheVariants.{Insert}
use Rattle.sqlite.specs.Does.{AtPlace, Does, OnRows}
use Rattle.sqlite.specs.Edit.{Edit, IsRefused, edit_of, edited, taken_by}
use Rattle.sqlite.specs.Effect.{IsDatabase, value_rows, edit_error}
use Rattle.sqlite.specs.Listing.{understood}
use Rattle.sqlite.specs.Order.{Row}
use Rattle.sqlite.specs.Rowids.TheVariants.{Chosen, Above}
use Rattle.sqlite.specs.Rows.{Counter, Counts, Inserts, Sourced, Task, count_of, rowids_for}
use Rattle.sqlite.specs.Rows.{stamped}
use Rattle.sqlite.specs.Schema.{Schema}
use Rattle.sqlite.specs.Source.TheVariants.{Values}
use Rattle.sqlite.specs.State.{State, Executes, ExecutesIn, IsNotRun, IsNoStatement, IsMisplaced}
use Rattle.sqlite.specs.State.{IsUnchanged, RunsCommand, Fails, mode_of, shows_rows}
use Rattle.sqlite.specs.State.{store_error, text_of}
use Rattle.sqlite.specs.Table.{Table}
use Rattle.sqlite.specs.Term.{Term}
use Rattle.sqlite.specs.Tree.{Trees, rowid, with_tree}
use Rattle.sqlite.proofs.Callers.{IsPlain, command_of}
use Rattle.sqlite_keyed.specs.Keyed.{next_key}
use Rattle.sqlite_keyed.proofs.ListLemmas.{slice_get-filter}
use Rattle.sqlite_resolve.specs.declared.compiled.Compiled.{Compiled}
use Rattle.sqlite_rules.specs.Action.{Leads, Writes, works}
use Rattle.sqlite_rules.specs.declared.error.Refusal.{Refusal}
use Rattle.sqlite_rules.specs.declared.error.Refusal.TheVariants.{Violates, Mismatch, NoRowid}
use Rattle.sqlite_rules.specs.declared.error.Refusal.TheVariants.{BadReference, TooDeep}
use Rattle.sqlite_schema.specs.Rules.{Keeps}
use Rattle.sqlite_schema.specs.declared.schema.Constraint.TheVariants.{Unique}
use Rattle.sqlite_schema.specs.declared.schema.Keys.TheVariants.{Enforced}
use Rattle.sqlite_trees.specs.declared.error.StoreError.{StoreError}
use Rattle.sqlite_trees.specs.declared.error.StoreError.TheVariants as fault
use Rattle.hq_keyed.proofs.Keyed as keyed
use Rattle.hq_keyed.proofs.Known.{Orders}
use Rattle.hq_keyed.proofs.Placed.{Kind, Place, Are, map_in}
use Rattle.hq_keyed.proofs.Writes.{put_is}
use Rattle.hq_keyed.proofs.Unique.{Guard, keeps_more, none_pass}

abbrev refusal : Error
refusal = SqliteFailure (ConstraintViolation Unique)

no_fault : (cause : StoreError) → refusal ≡ store_error cause → ⊥
no_fault fault.OutOfMemory e = let f = e in cc
no_fault fault.Io e = let f = e in cc
no_fault fault.Corrupt e = let f = e in cc
no_fault fault.Full e = let f = e in cc
no_fault fault.Broken e = let f = e in cc
no_fault fault.Unstorable e = let f = e in cc

never_fails : (old new : State) (P : Type 0) → Fails old new P refusal → ⊥
never_fails old new P h = no_fault h.0 h.1

not_misplaced : (s : State) (c : Command) → IsMisplaced s c refusal → ⊥
not_misplaced s c (inl h) = absurd (let e = h.0 in cc)
not_misplaced s c (inr h) = absurd (let e = h.0 in cc)

no_bad_text : (s : State) (text : List ℕ) (params : Row) → IsNoStatement s text params refusal → ⊥
no_bad_text s text params (inl h) = absurd (let e = h.2 in cc)
no_bad_text s text params (inr (c, is, inl h)) = absurd (let e = h.1 in cc)
no_bad_text s text params (inr (c, is, inr (inl h))) = absurd (let e = h.1 in cc)
no_bad_text s text params (inr (c, is, inr (inr h))) = absurd (let e = h.1 in cc)

-- it left the transaction as it was, and open, and the command itself was refused
refused_by : (schema : Schema) (old new : State) (has : old.now.schema ≡ schema)
    (text : List ℕ) (params : Row) (command : Command) → Orders schema text command →
    Executes text params old new (Err refusal) → IsUnchanged old new × ((source : List ℕ) ×
    Does old.step_limit (mode_of old) params old.now source None command (Err (Some refusal)))
unfolding ExecutesIn IsNotRun
refused_by schema old new has text params command known (inl (inl h)) =
    absurd (no_bad_text old text params h.0)
refused_by schema old new has text params command known (inl (inr h)) =
    absurd (never_fails old new _ h)
refused_by schema old new has text params command known (inr h) =
    elim (cases_Bool (shows_rows false h.0)) [
      | inl shows ↦ absurd (let e = (rw shows at h.2).0 in cc)
      | inr runs ↦ ended (rw runs at h.2)
    ]
  where
    c : Compiled
    c = h.0

    full : Row
    full = timed params c.formats h.1.now

    found : Ok c ≡ understood schema text
    found = sym h.1.is ∙ ap (λ s. understood s text) has

    bare : IsPlain (Ok c)
    bare = subst IsPlain (sym found) known.plain

    given : full ≡ params
    given = ap (λ f. timed params f h.1.now) bare.1 ∙ append-nil params

    ended : RunsCommand old new text c full (Err refusal) → IsUnchanged old new
        × ((source : List ℕ) × Does old.step_limit (mode_of old) params old.now source None command
        (Err (Some refusal)))
    ended (inl (inl why, same)) = absurd (not_misplaced old c.command why)
    ended (inl (inr it, same)) = (
      same,
      (
        text_of text c,
        subst (λ k. Does old.step_limit (mode_of old) params old.now (text_of text c) None k
            (Err (Some refusal))) (ap command_of found ∙ known.is)
            (subst (λ r. Does old.step_limit (mode_of old) params old.now (text_of text c) r
            c.command (Err (Some refusal))) bare.0
            (subst (λ ps. Does old.step_limit (mode_of old) ps old.now (text_of text c) c.returning
            c.command (Err (Some refusal))) given it.1)),
      ),
    )
    ended (inr why) = absurd (never_fails old new _ why)

refusal_is : (why : Refusal) → Some refusal ≡ Some (edit_error why) → why ≡ Violates Unique
refusal_is (Violates rule) e = let f = e in cc
refusal_is Mismatch e = absurd (let f = e in cc)
refusal_is NoRowid e = absurd (let f = e in cc)
refusal_is BadReference e = absurd (let f = e in cc)
refusal_is TooDeep e = absurd (let f = e in cc)

inner : {A : Type 0} {a b : Option Error} → ◌≡◌ {A = Result A (Option Error)} (Err a) (Err b) →
    a ≡ b
inner e = cc

never : {A : Type 0} {a : Option Error} {b : A} →
    ◌≡◌ {A = Result A (Option Error)} (Err a) (Ok b) → ⊥
never e = absurd cc

-- an edit that a unique index refused would break its rule
edit_breaks : (schema : Schema) (db : Trees) (edit : Edit) (why : Option Refusal) →
    works schema Enforced 0 edit.table.tree (taken_by db edit) edit.news ≡ [] →
    Some refusal ≡ option_map edit_error why → Writes schema Enforced db edit (Err why) →
    ¬ Keeps Unique schema (with_tree db edit.table.tree (edited db edit))
edit_breaks schema db edit why none is (inl h) =
    let same : why ≡ Some h.0 = let e = h.2 in cc in
    let rule : h.0 ≡ Violates Unique = refusal_is h.0 (is ∙ ap (option_map edit_error) same) in
    subst (IsRefused schema Enforced db edit) rule h.1
edit_breaks schema db edit why none is (inr (inl h)) =
    let same : why ≡ None = let e = h.3 in cc in
    absurd (let f = is ∙ ap (option_map edit_error) same in cc)
edit_breaks schema db edit why none is (inr (inr h)) = absurd (at_rest h.2.0 (rw none at h.2.1))
  where
    at_rest : (n : ℕ) → Leads schema Enforced n h.0 [] (Err why) → ⊥
    at_rest zero l = absurd (let e = l.1 in cc)
    at_rest (suc n) l = omega (arith, ap length l.2, length-append l.0 (l.1 ∷ []))

module _ (schema : Schema) (p : Place schema) (old : State) (params : Row) (db : Trees)
    (terms : List Term) (width : ℕ) (source : Row)
    (sources : value_rows (stamped p.table params) width (length terms / width) terms
    ≡ source ∷ []) where
  abbrev task : Task
  task = record {
    limit = old.step_limit;
    keys = Enforced;
    schema = schema;
    table = p.table;
    params = params;
  }

  abbrev put : Edit
  put = edit_of db p.table [] Chosen 0 (source ∷ [])

  abbrev Breaks : Type 0
  Breaks = ¬ Keeps Unique schema (with_tree db p.table.tree (edited db put))

  -- what no part but the edit is refused for
  no_source : (stop : Option Error) → Some refusal ≡ stop → Sourced old.step_limit
      (record { schema = schema; trees = db }) (stamped p.table params) (Values terms width)
      (Err stop) → ⊥
  no_source None is h = h
  no_source (Some e) is (inl h) = absurd (let f = h.0 in cc)
  no_source (Some e) is (inr h) = absurd (let f = h.0 in cc)

  no_counter : (stop : Option Error) → Counter task db (Err stop) → ⊥
  no_counter stop h = never (rw p.uncounted at h)

  no_counts : (mid : Trees) (counter : Option Row) (top : ℤ) (stop : Option Error) →
      Counts task mid counter top (Err stop) → ⊥
  no_counts mid counter top stop h = never (rw p.uncounted at h)

  by_edit : (given : List Row) (counter : Option Row) (why : Option Refusal) →
      given ≡ source ∷ [] → Some refusal ≡ option_map edit_error why → Writes schema Enforced db
      (edit_of db p.table [] (rowids_for p.table (count_of counter)) 0 given) (Err why) → Breaks
  by_edit given counter why is same h =
      let chosen : rowids_for p.table (count_of counter) ≡ Chosen =
      ap (λ b. cond b (Above (count_of counter)) Chosen) p.uncounted in
      edit_breaks schema db put why (p.unlinked (taken_by db put) put.news) same
      (subst (λ how. Writes schema Enforced db (edit_of db p.table [] how 0 (source ∷ []))
      (Err why)) chosen
      (subst (λ rows. Writes schema Enforced db (edit_of db p.table []
      (rowids_for p.table (count_of counter)) 0 rows) (Err why)) is h))

  from_insert : (stop : Option Error) → Some refusal ≡ stop →
      Inserts task (Values terms width) db (Err stop) → Breaks
  from_insert stop is (inl (other, h, e)) = absurd (no_source other (is ∙ inner e) h)
  from_insert stop is (inr (given, is_given, inl (other, h, e))) = absurd (no_counter other h)
  from_insert stop is (inr (given, is_given, inr (counter, c, inl (other, (why, h, same), e)))) =
      by_edit given counter why (is_given.1 ∙ sources) (is ∙ inner e ∙ same) h
  from_insert stop is (inr (given, is_given, inr (counter, c, inr (mid, m, inl (other, h, e))))) =
      absurd (no_counts mid counter _ other h)
  from_insert stop is (inr (given, is_given, inr (counter, c, inr (mid, m, inr (next, n, e))))) =
      absurd (never e)

  breaks : OnRows task (mode_of old) None (Insert p.at (Values terms width)) db
      (Err (Some refusal)) → Breaks
  breaks (inl (stop, h, e)) = from_insert stop (inner e) h
  breaks (inr (w, made, inl (stop, h, e))) = absurd (let f = h.1 in let s = inner e in cc)
  breaks (inr (w, made, inr (doubt, t, inl (stop, h, e)))) = absurd (never h)
  breaks (inr (w, made, inr (doubt, t, inr (rows, r, e)))) = absurd (never e)

module _ {X K V : Type 0} (schema : Schema) (p : Place schema) (k : Kind X K V)
    (g : Guard schema p k) where
  taken : (old : State) (has : old.now.schema ≡ schema) → IsDatabase old.now →
      (s : Are schema p k (old.now.trees p.table.tree)) (terms : List Term) (width : ℕ)
      (params source : Row) (x : X) (text : List ℕ)
      → value_rows (stamped p.table params) width (length terms / width) terms ≡ source ∷ [] →
      rowid (cast_row p.table source) ≡ Null
      → ((n : ℤ) → Int n ∷ drop 1 (cast_row p.table source) ≡ k.encode (n, x)) →
      Does old.step_limit (mode_of old) params old.now text None
      (Insert p.at (Values terms width)) (Err (Some refusal)) →
      is_some (get (map_in schema p k (old.now.trees p.table.tree)) (k.key x)) ≡ true
  taken old has sound s terms width params source x text sources null row does =
      let db = old.now.trees in
      let rows = db p.table.tree in
      let command = Insert p.at (Values terms width) in
      let here = subst (λ it. Does old.step_limit (mode_of old) params
      (record old.now { schema = it }) text None command (Err (Some refusal))) has does in
      let task = λ (t : Table). let it : Task =
      record {
        limit = old.step_limit;
        keys = Enforced;
        schema = schema;
        table = t;
        params = params;
      } in it in
      let on = subst (λ o. AtPlace (λ t. OnRows (task t) (mode_of old) None command db) o
      (Err (Some refusal))) p.listed here in
      let broken = breaks schema p old params db terms width source sources on in
      let keeps : Keeps Unique schema db = subst (λ it. Keeps Unique it db) has
      (sound.obeys.rules Unique) in
      let new : ℤ × X = (next_key (λ n. n.0) s.kept, x) in
      let put = put_is k.encode k.numbered rows s.kept (cast_row p.table source) x s.rows_are
      s.rises null row in
      elim (keyed.one k.encode k.decode k.total k.exact k.key k.val rows s (k.key x)) [
        | inl none ↦ absurd (broken (subst (λ l. Keeps Unique schema (with_tree db p.table.tree l))
            (sym put) (keeps_more schema p k g new s.kept (none_pass _ s.kept none) db s.rows_are
            keeps)))
        | inr some ↦
            let there : find (λ y. eq_by_cmp k.order (k.key x) (k.key y.1)) s.kept ≡ Some some.0 =
            sym (slice_get-filter _ s.kept) ∙ ap (λ l. slice_get l 0) some.1 in
            ap is_some (keyed.got k.encode k.decode k.total k.exact k.key k.val rows (k.key x)
            ∙ ap (option_map k.val) (keyed.first_of k.encode k.decode k.total k.exact k.key k.val
            rows s (k.key x) ∙ ap (option_map (λ n. n.1)) there))
      ]

  -- it left the transaction as it was, and open; and where the store is sound, a row has its key
  pub refused : (old new : State) (has : old.now.schema ≡ schema)
      (s : Are schema p k (old.now.trees p.table.tree)) (text : List ℕ) (terms : List Term)
      (width : ℕ) → Orders schema text (Insert p.at (Values terms width)) →
      (params source : Row) (x : X)
      → value_rows (stamped p.table params) width (length terms / width) terms ≡ source ∷ [] →
      rowid (cast_row p.table source) ≡ Null
      → ((n : ℤ) → Int n ∷ drop 1 (cast_row p.table source) ≡ k.encode (n, x)) →
      Executes text params old new (Err (SqliteFailure (ConstraintViolation Unique))) →
      IsUnchanged old new × (IsDatabase old.now →
      is_some (get (map_in schema p k (old.now.trees p.table.tree)) (k.key x)) ≡ true)
  refused old new has s text terms width known params source x sources null row h =
      let it = refused_by schema old new has text params _ known h in (
        it.0,
        λ sound. taken old has sound s terms width params source x it.1.0 sources null row it.1.1,
      )
