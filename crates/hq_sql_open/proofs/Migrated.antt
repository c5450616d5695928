-- A migration as a whole.
use Rattle.std.proofs.Common.{◌≡◌, inl, inr, ℕ, cond, List, [], map, IsTrue, refl, sym, ap, ◌∙◌}
use Rattle.std.proofs.Common.{subst}
use Rattle.std.specs.FinMap.{empty}
use Rattle.sqlite.specs.Effect.{Database, IsDatabase}
use Rattle.sqlite.specs.Schema.{Schema}
use Rattle.sqlite.specs.State.{State, HasCleanDisk, IsLive}
use Rattle.sqlite.specs.Table.{Table}
use Rattle.hq_keyed.specs.Left.{IsQuiet, LeavesNoMore}
use Rattle.hq_keyed.specs.Made.{CreatesTable}
use Rattle.hq_keyed.proofs.Left.{clean_before}
use Rattle.std.specs.List.{IsDistinct}
use Rattle.hq_owned.specs.Rows.{map_of, HasUniqueKeys}
use Rattle.hq_schema.specs.Schema.{holds, ends, first_schema, second_schema, desk_schema}
use Rattle.hq_schema.proofs.Texts.{holds_made_last, ends_made_last}
use Rattle.hq_sql_open.specs.Lifted.{holds_for}
use Rattle.hq_rows.specs.Listed.{holds_of, heads_of, messages_of, recipients_of, lines_of, marks_of}
use Rattle.hq_rows.specs.Listed.{notices_of, ends_of, end_key}
use Rattle.hq_tables.specs.Tables.{Tables, end_cmp}
use Rattle.hq_sql.specs.Rows.{hold_read, head_read, message_read, recipient_read, line_read}
use Rattle.hq_sql.specs.Rows.{mark_read, notice_read, end_read}
use Rattle.hq_sql.specs.Tables.{AreHolds, AreHeads, AreMessages, AreRecipients, AreLines, AreMarks}
use Rattle.hq_sql.specs.Tables.{AreNotices}
use Rattle.hq_sql_open.specs.Found.{desk_with}
use Rattle.hq_sql_open.specs.Making.{GoesOn}
use Rattle.hq_sql_open.specs.Transactions.{IsBegun, LeavesAlso, KeepsAll}
use Rattle.hq_sql_open.proofs.Making.{goes_then, keeps_next}
use Rattle.hq_sql_open.specs.Stores.{first_tables_in, second_tables_in, count_on_hold}
use Rattle.hq_sql_open.specs.Stores.{HasVersion}
use Rattle.hq_sql_open.specs.Stores.{HoldsRows, IsFirst, IsSecond, HoldsThird, lifted_in}
use Rattle.hq_sql_open.specs.Migration.{HasEmptyHolds, SameRows, Widens, Fills, Stamps, Lifts}
use Rattle.hq_sql_open.specs.Migration.{Raises, MakesThird, TreesOfThird}
use Rattle.hq_sql_open.specs.Migration.{LeavesThird}
use Rattle.hq_sql.proofs.Tables.{no_index, apart}

-- ---- rows that stay

pub same_then : (a b c : Database) → SameRows a b → SameRows b c → SameRows a c
same_then a b c p q = record {
  version = q.version ∙ p.version;
  heads = q.heads ∙ p.heads;
  messages = q.messages ∙ p.messages;
  recipients = q.recipients ∙ p.recipients;
  lines = q.lines ∙ p.lines;
  notices = q.notices ∙ p.notices;
  marks = q.marks ∙ p.marks;
}

version_kept : (a b : Database) (n : ℕ) → HasVersion a n → SameRows a b → HasVersion b n
version_kept a b n v same = record { rowid = v.rowid; row_is = same.version ∙ v.row_is }

-- ---- the tables that are made

made_goes : (a b : State) (s : Schema) (t : Table) → CreatesTable a b s t → GoesOn a b
made_goes a b s t m = record {
  was_open = λ _. m.shown.was_open;
  mode = m.shown.mode;
  committed = λ within. m.shown.committed_is ∙ ap (λ k. cond k a.committed b.now) within;
}

made_second : (a b : State) → CreatesTable a b first_schema holds → b.now.schema ≡ second_schema
made_second a b m = m.schema_is ∙ holds_made_last

made_third : (a b : State) → CreatesTable a b second_schema ends → b.now.schema ≡ desk_schema
made_third a b m = m.schema_is ∙ ends_made_last

same_first : (a b : State) → CreatesTable a b first_schema holds → SameRows a.now b.now
same_first a b m = record {
  version = m.others.0;
  heads = m.others.1.0;
  messages = m.others.1.1.0;
  recipients = m.others.1.1.1.0;
  lines = m.others.1.1.1.1.0;
  notices = m.others.1.1.1.1.1.0;
  marks = m.others.1.1.1.1.1.1.0;
}

same_second : (a b : State) → CreatesTable a b second_schema ends → SameRows a.now b.now
same_second a b m = record {
  version = m.others.0;
  heads = m.others.1.0;
  messages = m.others.1.1.0;
  recipients = m.others.1.1.1.0;
  lines = m.others.1.1.1.1.0;
  notices = m.others.1.1.1.1.1.0;
  marks = m.others.1.1.1.1.1.1.0;
}

pub widens : (a b c : State) → CreatesTable a b first_schema holds →
    (b.now.schema ≡ second_schema → CreatesTable b c second_schema ends) → Widens a c
widens a b c m makes =
    let n = makes (made_second a b m) in
    record {
      schema_is = made_third b c n;
      same = same_then a.now b.now c.now (same_first a b m) (same_second b c n);
      no_holds = n.others.1.1.1.1.1.1.1.0 ∙ m.empty;
      no_ends = n.empty;
      goes = goes_then a b c (made_goes a b first_schema holds m)
          (made_goes b c second_schema ends n);
    }

-- both are kept, as far as they came
pub both_keep : (a b c : State) → IsTrue a.in_transaction →
    (HasCleanDisk b → CreatesTable a b first_schema holds) → KeepsAll a b → IsQuiet b c →
    (b.now.schema ≡ second_schema → IsTrue b.in_transaction → KeepsAll b c) → KeepsAll a c
both_keep a b c within makes first quiet second = keeps_next a b c first quiet (λ clean.
    let m = makes clean in
    second (made_second a b m) (m.shown.mode ∙ within))

-- ---- a store of version 1

same_filled : (reason : List ℕ) (count : ℕ) (a b : State) → Fills reason count a b →
    SameRows a.now b.now
same_filled reason count a b f = record {
  version = f.others 0 (apart 0 14 refl) (no_index 0 refl);
  heads = f.others 1 (apart 1 14 refl) (no_index 1 refl);
  messages = f.others 3 (apart 3 14 refl) (no_index 3 refl);
  recipients = f.others 6 (apart 6 14 refl) (no_index 6 refl);
  lines = f.others 8 (apart 8 14 refl) (no_index 8 refl);
  notices = f.others 10 (apart 10 14 refl) (no_index 10 refl);
  marks = f.others 12 (apart 12 14 refl) (no_index 12 refl);
}

empty_holds : (a b : State) → IsFirst a.now → Widens a b → HasEmptyHolds b.now
empty_holds a b first m = record {
  schema_is = m.schema_is;
  messages = subst AreMessages (sym m.same.messages) first.rows.messages;
  empty = m.no_holds;
}

-- the rows of all tables but that of the version, before and after it was written
module _ (a c d : State) (rows : HoldsRows a.now) (same : SameRows a.now c.now)
    (held : AreHolds (c.now.trees 14)) (none : c.now.trees 16 ≡ []) (s : Stamps c d) where
  heads : d.now.trees 1 ≡ a.now.trees 1
  heads = s.others 1 (apart 1 0 refl) (no_index 1 refl) ∙ same.heads

  messages : d.now.trees 3 ≡ a.now.trees 3
  messages = s.others 3 (apart 3 0 refl) (no_index 3 refl) ∙ same.messages

  recipients : d.now.trees 6 ≡ a.now.trees 6
  recipients = s.others 6 (apart 6 0 refl) (no_index 6 refl) ∙ same.recipients

  lines : d.now.trees 8 ≡ a.now.trees 8
  lines = s.others 8 (apart 8 0 refl) (no_index 8 refl) ∙ same.lines

  notices : d.now.trees 10 ≡ a.now.trees 10
  notices = s.others 10 (apart 10 0 refl) (no_index 10 refl) ∙ same.notices

  marks : d.now.trees 12 ≡ a.now.trees 12
  marks = s.others 12 (apart 12 0 refl) (no_index 12 refl) ∙ same.marks

  reasons : d.now.trees 14 ≡ c.now.trees 14
  reasons = s.others 14 (apart 14 0 refl) (no_index 14 refl)

  no_ends : d.now.trees 16 ≡ []
  no_ends = s.others 16 (apart 16 0 refl) (no_index 16 refl) ∙ none

  no_rows : ends_of (map end_read (d.now.trees 16)) ≡ empty
  unfolding map_of
  no_rows = ap (λ rows. ends_of (map end_read rows)) no_ends

  pub holds_third : (t : Tables) → t ≡ record (second_tables_in a.now) {
    holds = holds_of (map hold_read (c.now.trees 14));
  } → HoldsThird t d.now
  unfolding IsDistinct
  holds_third t is = record {
    third = record {
      schema_is = s.schema_is;
      version = s.version;
      rows = record {
        heads = subst AreHeads (sym heads) rows.heads;
        messages = subst AreMessages (sym messages) rows.messages;
        recipients = subst AreRecipients (sym recipients) rows.recipients;
        lines = subst AreLines (sym lines) rows.lines;
        notices = subst AreNotices (sym notices) rows.notices;
        marks = subst AreMarks (sym marks) rows.marks;
      };
      holds = subst AreHolds (sym reasons) held;
      ends = record {
        kept = [];
        rows_are = no_ends;
        rises = tt;
        back = tt;
        unique = subst (λ rows. HasUniqueKeys end_cmp end_key (map end_read rows)) (sym no_ends) tt;
      };
    };
    tables = (λ i. record {
      heads = heads_of (map head_read (heads i));
      messages = messages_of (map message_read (messages i));
      recipients = recipients_of (map recipient_read (recipients i));
      holds = holds_of (map hold_read (reasons i));
      lines = lines_of (map line_read (lines i));
      marks = marks_of (map mark_read (marks i));
      notices = notices_of (map notice_read (notices i));
      ends = no_rows i;
    }) ∙ sym is;
  }

-- the three steps together
all_lifted : (reason : List ℕ) (count : ℕ) (a b c d : State) → IsFirst a.now → Widens a b →
    Fills reason count b c → Stamps c d → Lifts reason count a d
all_lifted reason count a b c d first m f s =
    let same = same_then a.now b.now c.now m.same (same_filled reason count b c f) in
    let none = f.others 16 (apart 16 14 refl) (no_index 16 refl) ∙ m.no_ends in
    let found = f.found ∙ ap (λ rows. holds_for reason (messages_of (map message_read rows)))
    m.same.messages in (
      record {
        holds = holds_third a c d first.rows same f.holds none s (lifted_in reason a.now)
            (λ i. record (first_tables_in a.now) { holds = sym found i });
        is_open = s.is_open;
        goes = goes_then a b d m.goes (goes_then b c d f.goes s.goes);
      },
      f.count_is ∙ ap (λ rows. count_on_hold (messages_of (map message_read rows)))
          m.same.messages,
    )

pub lifts_all : (reason : List ℕ) (count : ℕ) (a b c d : State) → IsFirst a.now → IsQuiet b c →
    IsQuiet c d → (HasCleanDisk b → Widens a b) →
    (HasEmptyHolds b.now → HasCleanDisk c → Fills reason count b c)
    → ((version : ℕ) → c.now.schema ≡ desk_schema → HasVersion c.now version → HasCleanDisk d →
    Stamps c d) → HasCleanDisk d → Lifts reason count a d
lifts_all reason count a b c d first bc cd makes fills stamps clean =
    let clean_c = clean_before c d cd clean in
    let m = makes (clean_before b c bc clean_c) in
    let f = fills (empty_holds a b first m) clean_c in
    let same = same_then a.now b.now c.now m.same (same_filled reason count b c f) in
    all_lifted reason count a b c d first m f
    (stamps 1 f.schema_is (version_kept a.now c.now 1 first.version same) clean)

pub two_keep : (a b c : State) → IsTrue a.in_transaction → (HasCleanDisk b → Widens a b) →
    KeepsAll a b → IsQuiet b c →
    (b.now.schema ≡ desk_schema → IsTrue b.in_transaction → KeepsAll b c) → KeepsAll a c
two_keep a b c within makes first quiet second = keeps_next a b c first quiet (λ clean.
    let m = makes clean in
    second m.schema_is (m.goes.mode ∙ within))

pub three_keep : (a b c d : State) → IsTrue a.in_transaction → (HasCleanDisk b → Widens a b) →
    KeepsAll a c → IsQuiet b c →
    (b.now.schema ≡ desk_schema → HasCleanDisk c → (c.now.schema ≡ desk_schema) × GoesOn b c)
    → IsQuiet c d → (c.now.schema ≡ desk_schema → IsTrue c.in_transaction → KeepsAll c d) →
    KeepsAll a d
three_keep a b c d within makes two bc goes cd third = keeps_next a c d two cd (λ clean.
    let m = makes (clean_before b c bc clean) in
    let g = goes m.schema_is clean in
    third g.0 (g.1.mode ∙ m.goes.mode ∙ within))

-- ---- a store of version 2

pub raises : (a b c : State) → IsSecond a.now → CreatesTable a b second_schema ends →
    ((version : ℕ) → b.now.schema ≡ desk_schema → HasVersion b.now version → Stamps b c) →
    Raises a c
raises a b c second m stamps =
    let same = same_second a b m in
    let kept : b.now.trees 14 ≡ a.now.trees 14 = m.others.1.1.1.1.1.1.1.0 in
    let s = stamps 2 (made_third a b m) (version_kept a.now b.now 2 second.version same) in
    record {
      holds = holds_third a b c second.rows same (subst AreHolds (sym kept) second.holds) m.empty s
          (second_tables_in a.now) (λ i. record (second_tables_in a.now) {
            holds = holds_of (map hold_read (sym kept i));
          });
      is_open = s.is_open;
      goes = goes_then a b c (made_goes a b second_schema ends m) s.goes;
    }

pub raise_keeps : (a b c : State) → IsTrue a.in_transaction →
    (HasCleanDisk b → CreatesTable a b second_schema ends) → KeepsAll a b → IsQuiet b c →
    (b.now.schema ≡ desk_schema → IsTrue b.in_transaction → KeepsAll b c) → KeepsAll a c
raise_keeps a b c within makes first quiet second = keeps_next a b c first quiet (λ clean.
    let m = makes clean in
    second (made_third a b m) (m.shown.mode ∙ within))

-- ---- with the transaction round them

module _ (Is : Database → Type 0) (made : Database → Tables) (a b c d : State)
    (is : Is a.now) where
  begun_on : IsBegun a b → Is b.now
  begun_on begun = subst Is (sym begun.now_is) is

  third_from : IsBegun a b → (Is b.now → MakesThird (made b.now) b c) →
      HoldsThird (made a.now) c.now
  third_from begun makes = subst (λ db. HoldsThird (made db) c.now) begun.now_is
      (makes (begun_on begun)).holds

  -- the trees that the commit was to leave
  whole : IsDatabase c.now → HoldsThird (made a.now) c.now → TreesOfThird (made a.now) c.now.trees
  whole sound l =
      let same : c.now ≡ desk_with c.now.trees =
      λ i. record { schema = l.third.schema_is i; trees = c.now.trees } in
      record { sound = subst IsDatabase same sound; holds = subst (HoldsThird (made a.now)) same l }

  pub commit_stops : IsQuiet b c → IsQuiet c d → (HasCleanDisk b → IsBegun a b) →
      LeavesNoMore a b → (HasCleanDisk b → LeavesNoMore b c) →
      (HasCleanDisk c → Is b.now → MakesThird (made b.now) b c) → IsLive c →
      LeavesAlso c d c.now.trees → LeavesThird (made a.now) a d
  commit_stops bc cd begun ab between makes live last clean db may =
      let clean_c = clean_before c d cd clean in
      let clean_b = clean_before b c bc clean_c in
      let began = begun clean_b in
      elim (last clean db may) [
        | inl before ↦ inl (ab clean_b db (between clean_b clean_c db before))
        | inr after ↦ inr (subst (TreesOfThird (made a.now)) (sym after)
            (whole (live (makes clean_c (begun_on began)).is_open).0
            (third_from began (makes clean_c))))
      ]
