-- What a write of one table leaves of them all.
use Rattle.std.proofs.Common.{◌≡◌, ◌≢◌, ℕ, pos, Bool, true, false, not, eqb, cond, List, [], ◌∷◌}
use Rattle.std.proofs.Common.{map, IsTrue, refl, sym, ap, ◌∙◌, subst}
use Rattle.std.specs.List.{list_all}
use Rattle.std.specs.FinMap.{FinMap}
use Rattle.std.proofs.lemmas.Bool.Decides.{nat_tests}
use Rattle.std.proofs.Common.{arith}
use Rattle.sqlite.specs.declared.types.Value.TheVariants.{Int}
use Rattle.sqlite.specs.Order.{Row, column}
use Rattle.sqlite.specs.Effect.{Database}
use Rattle.sqlite.specs.State.{State, KeepsCommit}
use Rattle.sqlite_rules.specs.Edit.{IsNoIndex}
use Rattle.sqlite_schema.specs.declared.schema.Index.{Index}
use Rattle.sqlite_keyed.proofs.ListLemmas.{all_weaker, all_from_test}
use Rattle.hq_keyed.specs.Changed.{Sets}
use Rattle.hq_keyed.specs.Stored.{IsStored}
use Rattle.hq_keyed.proofs.Placed.{Kind, Place, Wrote, map_in}
use Rattle.hq_schema.specs.Schema.{desk_schema}
use Rattle.hq_tables.specs.Tables.{Tables}
use Rattle.hq_rows.specs.Listed.{heads_of, messages_of, recipients_of, holds_of, lines_of, marks_of}
use Rattle.hq_rows.specs.Listed.{notices_of, ends_of}
use Rattle.hq_sql.specs.Rows.{head_read, message_read, recipient_read, hold_read, line_read}
use Rattle.hq_sql.specs.Rows.{mark_read, notice_read, end_read}
use Rattle.hq_sql.specs.Tables.{IsDesk, Leaves, AreHeads, AreMessages, AreRecipients, AreHolds}
use Rattle.hq_sql.specs.Tables.{AreLines, AreMarks, AreNotices, AreEnds, tables_in}

-- a tree of a table is no index
pub no_index : (t : ℕ) → list_all (λ (i : Index). not (eqb i.tree t)) desk_schema.indexes ≡ true →
    IsNoIndex desk_schema t
no_index t h = all_weaker (λ (i : Index). not (eqb i.tree t) ≡ true) (λ (i : Index). i.tree ≢ t)
    (λ i e. λ same. grind (arith, nat_tests)) desk_schema.indexes
    (all_from_test (λ (i : Index). not (eqb i.tree t)) desk_schema.indexes h)

pub apart : (m n : ℕ) → eqb m n ≡ false → m ≢ n
apart m n h = λ same. grind (arith, nat_tests)

-- ---- one tree among those of a desk

abbrev either : Bool → Type 0 → Type 0 → Type 0
either true A B = A
either false A B = B

-- the rows may stand in this tree
abbrev pub Fits : ℕ → List Row → Type 0
Fits t rows =
    either (eqb t 0) (map (λ r. column r 1) rows ≡ Int (pos 3) ∷ [])
    (either (eqb t 1) (AreHeads rows) (either (eqb t 3) (AreMessages rows)
    (either (eqb t 6) (AreRecipients rows)
    (either (eqb t 8) (AreLines rows) (either (eqb t 10) (AreNotices rows)
    (either (eqb t 12) (AreMarks rows) (either (eqb t 14) (AreHolds rows) (AreEnds rows))))))))

-- the database with these rows in one tree
abbrev pub with_rows : ℕ → List Row → Database → Database
with_rows tree rows db = record db { trees = λ t. cond (eqb t tree) rows (db.trees t) }

module _ (old new : Database) (tree : ℕ) (rows : List Row)
    (sets : Sets desk_schema old new tree rows) where
  there : (t : ℕ) → IsNoIndex desk_schema t → new.trees t ≡ cond (eqb t tree) rows (old.trees t)
  there t none = go (eqb t tree) refl
    where
      go : (b : Bool) → eqb t tree ≡ b → new.trees t ≡ cond b rows (old.trees t)
      go true e = let same : t ≡ tree = grind (arith, nat_tests) in ap new.trees same
          ∙ sets.rows_are
      go false e = sets.others t (apart t tree e) none

  fits : Fits tree rows → (t : ℕ) → IsNoIndex desk_schema t → Fits t (old.trees t) →
      Fits t (new.trees t)
  fits are t none was = subst (Fits t) (sym (there t none)) (go (eqb t tree) refl)
    where
      go : (b : Bool) → eqb t tree ≡ b → Fits t (cond b rows (old.trees t))
      go true e = let same : tree ≡ t = grind (arith, nat_tests) in
          subst (λ k. Fits k rows) same are
      go false e = was

  pub desk_left : IsDesk old → Fits tree rows → IsDesk new
  desk_left desk are = record {
    schema_is = sets.schema_is;
    version = fits are 0 (no_index 0 refl) desk.version;
    heads = fits are 1 (no_index 1 refl) desk.heads;
    messages = fits are 3 (no_index 3 refl) desk.messages;
    recipients = fits are 6 (no_index 6 refl) desk.recipients;
    lines = fits are 8 (no_index 8 refl) desk.lines;
    notices = fits are 10 (no_index 10 refl) desk.notices;
    marks = fits are 12 (no_index 12 refl) desk.marks;
    holds = fits are 14 (no_index 14 refl) desk.holds;
    ends = fits are 16 (no_index 16 refl) desk.ends;
  }

  pub tables_left : tables_in new ≡ tables_in (with_rows tree rows old)
  tables_left = λ i. record {
    heads = heads_of (map head_read (there 1 (no_index 1 refl) i));
    messages = messages_of (map message_read (there 3 (no_index 3 refl) i));
    recipients = recipients_of (map recipient_read (there 6 (no_index 6 refl) i));
    holds = holds_of (map hold_read (there 14 (no_index 14 refl) i));
    lines = lines_of (map line_read (there 8 (no_index 8 refl) i));
    marks = marks_of (map mark_read (there 12 (no_index 12 refl) i));
    notices = notices_of (map notice_read (there 10 (no_index 10 refl) i));
    ends = ends_of (map end_read (there 16 (no_index 16 refl) i));
  }

-- a table of the desk: how it keeps its rows, its place in the schema, and its place among the
-- tables
pub record DeskTable (X K V : Type 0) : Type 0 where
  pub kind : Kind X K V
  pub place : Place desk_schema
  pub stored : (db : Database) → IsDesk db →
      IsStored kind.encode kind.decode kind.order kind.key (db.trees place.table.tree)
  pub fits : (rows : List Row) → IsStored kind.encode kind.decode kind.order kind.key rows →
      Fits place.table.tree rows
  pub at : Tables → FinMap kind.order V
  pub put : Tables → FinMap kind.order V → Tables
  pub at_put : (t : Tables) (m : FinMap kind.order V) → at (put t m) ≡ m
  pub put_put : (t : Tables) (m n : FinMap kind.order V) → put (put t m) n ≡ put t n
  pub set : (db : Database) (rows : List Row) →
      tables_in (with_rows place.table.tree rows db) ≡ put (tables_in db)
      (map_in desk_schema place kind rows)

-- a write of one table leaves this of them all
pub left : {X K V : Type 0} (t : DeskTable X K V) (old new : State) (after : FinMap t.kind.order V)
    → IsDesk old.now → Wrote desk_schema t.place.table.tree t.kind old new after →
    Leaves old new (t.put (tables_in old.now) after)
left t old new after desk w = record {
  desk = desk_left old.now new.now t.place.table.tree w.rows w.sets desk (t.fits w.rows w.stored);
  tables = tables_left old.now new.now t.place.table.tree w.rows w.sets ∙ t.set old.now w.rows
      ∙ ap (t.put (tables_in old.now)) w.map_is;
  is_open = w.on.is_open;
  was_open = w.on.was_open;
  mode = w.on.mode;
  committed = w.on.committed;
}

pub leaves_then : (a b c : State) (t u : Tables) → Leaves a b t → Leaves b c u → Leaves a c u
leaves_then a b c t u p q = record {
  desk = q.desk;
  tables = q.tables;
  is_open = q.is_open;
  was_open = p.was_open;
  mode = q.mode ∙ p.mode;
  committed = λ within. q.committed (subst IsTrue (sym p.mode) within) ∙ p.committed within;
}

pub leaves_keeps : (old new : State) (t : Tables) → Leaves old new t → IsTrue old.in_transaction →
    KeepsCommit old new
leaves_keeps old new t h within = record {
  was_open = λ _. h.was_open;
  committed = λ _. h.committed within;
}
