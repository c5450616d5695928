-- What statements keep, whichever they are: from what the library says of a query and of a command.
use Rattle.std.proofs.Common.{◌≡◌, ◌⊎◌, inl, inr, ℕ, Bool, true, false, true≢false, not, List}
use Rattle.std.proofs.Common.{Option, None, Result, Ok, Err, IsErr, IsTrue, refl, sym, ap, ◌∙◌}
use Rattle.std.proofs.Common.{subst}
use Rattle.std.specs.Prelude.{nat_eq, is_some}
use Rattle.sqlite.specs.Order.{Row}
use Rattle.sqlite.specs.declared.error.Error.{Error}
use Rattle.sqlite.specs.Command.{Command}
use Rattle.sqlite.specs.Listing.{understood}
use Rattle.sqlite.specs.State.{State, HasCleanDisk, IsUnchanged, KeepsCommit, Survives, CommitsBy}
use Rattle.sqlite.specs.State.{CommitsShowing, Shown, FailsToQuery, Executes}
use Rattle.sqlite.proofs.Callers.{IsPlain, command_of}
use Rattle.hq_keyed.proofs.Known.{Orders, changes_rows, keeps_commit}
use Rattle.hq_keyed.proofs.Left.{shown_unchanged, query_left, execute_left, left_keeps}
use Rattle.hq_keyed.proofs.Stops.{may_end, ends_none, query_leaves_no_more, write_leaves_no_more}
use Rattle.hq_schema.specs.Schema.{desk_schema}
use Rattle.hq_tables.specs.Tables.{Tables}
use Rattle.hq_sql.specs.Tables.{IsDesk, Leaves, tables_in}
use Rattle.hq_sql.specs.Kept.{HasTried, Intact, KeepsCommitted, Updated}

module _ (old new : State) (text : List ℕ) (params : Row)
    (plain : IsPlain (understood desk_schema text))
    (survives : Survives old new (CommitsShowing text params old)) where
  plain_here : IsDesk old.now → IsPlain (understood old.now.schema text)
  plain_here desk = subst (λ s. IsPlain (understood s text)) (sym desk.schema_is) plain

  -- a query that failed
  pub query_failed : {X : Type 0} (e : Error) (result : Result X Error) → IsErr result →
      (HasCleanDisk new → FailsToQuery text params old new e) → Intact old new result
  query_failed e (Ok x) is h = absurd (let f = is in cc)
  query_failed e (Err other) is h = record {
    same = λ clean desk. tt;
    kept = λ clean desk. left_keeps old new (query_left old new text params e (h clean));
    quiet = survives.clean;
    stops = λ desk. query_leaves_no_more old new text params (plain_here desk) survives;
  }

  -- a query that was answered
  pub query_answered : {X : Type 0} (rows : List Row) (x : X) →
      (HasCleanDisk new → Shown text params old new rows) → Intact old new (Ok x)
  query_answered rows x h = record {
    same = λ clean desk. shown_unchanged old new text params rows (plain_here desk) (h clean);
    kept = λ clean desk. tt;
    quiet = survives.clean;
    stops = λ desk. query_leaves_no_more old new text params (plain_here desk) survives;
  }

module _ (old new : State) (text : List ℕ) (params : Row) (command : Command)
    (known : Orders desk_schema text command) (changes : changes_rows command ≡ true)
    (survives : Survives old new (CommitsBy text params old)) where
  write_keeps : (HasCleanDisk new → IsDesk old.now → IsTrue old.in_transaction →
      KeepsCommit old new) → KeepsCommitted old new
  write_keeps h = record {
    kept = h;
    quiet = survives.clean;
    stops = λ desk within. write_leaves_no_more old new text params
        (subst (λ s. may_end (command_of (understood s text)) ≡ false) (sym desk.schema_is)
        (ap may_end known.is ∙ ends_none command changes)) within survives;
  }

  -- a write of rows that was made
  pub write_done : (count : ℕ) → (HasCleanDisk new → Executes text params old new (Ok count)) →
      KeepsCommitted old new
  write_done count h = write_keeps (λ clean desk within. keeps_commit desk_schema old new
      desk.schema_is text params command known changes count (h clean) within)

  -- one that failed
  pub write_failed : (e : Error) → (HasCleanDisk new → Executes text params old new (Err e)) →
      KeepsCommitted old new
  write_failed e h = write_keeps (λ clean desk within. left_keeps old new
      (execute_left old new text params e (h clean)))

  -- an INSERT that was made, or whose key was taken
  pub insert_tried : (there : Bool) →
      (HasCleanDisk new → HasTried text params old new (Ok there)) → KeepsCommitted old new
  insert_tried true h = write_failed _ (λ clean. (h clean).0)
  insert_tried false h = write_keeps (λ clean desk within. keeps_commit desk_schema old new
      desk.schema_is text params command known changes (h clean).0 (h clean).1 within)

-- ---- a query that was answered or failed, with another result

pub keeps_ok : {X Y : Type 0} (old new : State) (x : X) (y : Y) → Intact old new (Ok x) →
    Intact old new (Ok y)
keeps_ok old new x y h = record { same = h.same; kept = h.kept; quiet = h.quiet; stops = h.stops }

pub keeps_err : {X Y : Type 0} (old new : State) (e : Error) (r : Result Y Error) → IsErr r →
    Intact {X = X} old new (Err e) → Intact old new r
keeps_err old new e (Ok y) is h = absurd (let f = is in cc)
keeps_err old new e (Err other) is h = record {
  same = λ clean desk. tt;
  kept = h.kept;
  quiet = h.quiet;
  stops = h.stops;
}

-- ---- what the number of changed rows tells of an UPDATE by key

none_there : (count : ℕ) → count ≡ 0 → not (nat_eq count 0) ≡ true → ⊥
none_there count none there = true≢false (sym there ∙ ap (λ n. not (nat_eq n 0)) none)

one_there : (count : ℕ) → count ≡ 1 → not (nat_eq count 0) ≡ false → ⊥
one_there count one absent = true≢false (sym (ap (λ n. not (nat_eq n 0)) one) ∙ absent)

pub told_there : {V : Type 0} {count : ℕ} {old new : State} {before : Option V} {t after : Tables}
    → ((count ≡ 0) × ((before ≡ None) × Leaves old new t))
    ⊎ ((count ≡ 1) × ((is_some before ≡ true) × Leaves old new after)) →
    Updated (not (nat_eq count 0)) old new before t after
told_there {count = count} (inl h) = record {
  made = λ there. absurd (none_there count h.0 there);
  untouched = λ absent. h.1.1;
  free = λ absent. h.1.0;
  taken = λ there. absurd (none_there count h.0 there);
}
told_there {count = count} (inr h) = record {
  made = λ there. h.1.1;
  untouched = λ absent. absurd (one_there count h.0 absent);
  free = λ absent. absurd (one_there count h.0 absent);
  taken = λ there. h.1.0;
}

-- ---- what a key that was free tells of an INSERT

-- nothing changed
pub unchanged_leaves : (old new : State) → IsDesk old.now → IsUnchanged old new →
    Leaves old new (tables_in old.now)
unchanged_leaves old new desk same = record {
  desk = subst IsDesk (sym same.0.now_is) desk;
  tables = ap tables_in same.0.now_is;
  is_open = same.0.is_open;
  was_open = same.0.was_open;
  mode = same.0.mode;
  committed = λ _. same.0.committed_is;
}

-- it was made, where nothing stood at the key
pub made_free : {V : Type 0} {there : Bool} {old new : State} {before : Option V}
    {t after : Tables} → Updated there old new before t after → before ≡ None → Leaves old new t
made_free {there = true} h free = absurd (true≢false (sym (h.taken refl) ∙ ap is_some free))
made_free {there = false} h free = h.untouched refl
