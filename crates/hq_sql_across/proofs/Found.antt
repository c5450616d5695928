-- What an opening finds, and what a stop in it leaves.
use Rattle.std.proofs.Common.{◌≡◌, ◌⊎◌, inl, inr, true, false, Result, Ok, Err, sym, ap, ◌∙◌}
use Rattle.std.proofs.Common.{subst, refl}
use Rattle.std.specs.Prelude.{OnOk, is_err}
use Rattle.sqlite.specs.Effect.{Database, IsDatabase}
use Rattle.sqlite.specs.State.{State, Opens}
use Rattle.sqlite.specs.Tree.{Trees}
use Rattle.sqlite_trees.specs.Objects.{catalog_tree}
use Rattle.sqlite_catalog.specs.Listing.{Lists}
use Rattle.sqlite_catalog.proofs.ReadLemmas.{lists_once}
use Rattle.hq_tables.specs.Sound.{Sound}
use Rattle.hq_tables.specs.Tables.{Tables, no_tables}
use Rattle.hq_tables.proofs.Empty.{none_counted, empty_sound}
use Rattle.hq_sql.specs.Tables.{tables_in}
use Rattle.hq_sql_open.specs.Found.{HoldDesk, desk_with, tables_with}
use Rattle.hq_sql_open.specs.Opening.{IsUnmade}
use Rattle.hq_sql_open.specs.Transactions.{IsSettled}
use Rattle.hq_values.specs.Words.{earlier_hold}
use Rattle.hq_sql_open.specs.Migration.{TreesOfThird}
use Rattle.hq_sql_open.specs.Stores.{lifted_in, second_tables_in}
use Rattle.hq_sql_open.proofs.Customers.{third_is_desk, customers_lifted, sound_lifted}
use Rattle.hq_sql_shelf.specs.Shelf.{Adopts, HoldsTables, IsOurs, IsWholeDesk}
use Rattle.hq_sql_shelf.proofs.Ours.{never_both}
use Rattle.hq_sql_shelf.proofs.Stops.{whole_held}
use Rattle.hq_sql_across.specs.Stopped.{AreBlank, KeepTables, KeepsDesk, MayKeep, Reopens}
use Rattle.hq_sql_across.specs.Stopped.{BeginsHistory, BeginsUpgraded}

-- what is said of an answer, where it is no error
pub on_ok : {X E : Type 0} {P : Type 0} (r : Result X E) → is_err r ≡ false → OnOk r P → P
on_ok (Ok x) is said = said
on_ok (Err e) is said = absurd (let no : true ≡ false = is in cc)

-- trees have one schema
one_database : (trees : Trees) (found other : Database) → IsDatabase found → found.trees ≡ trees →
    IsDatabase other → other.trees ≡ trees → found ≡ other
one_database trees found other sound same others_sound others_same =
    let schema = lists_once (trees catalog_tree) found.schema other.schema
    (subst (λ (x : Trees). Lists (x catalog_tree) found.schema) same sound.lists)
    (subst (λ (x : Trees). Lists (x catalog_tree) other.schema) others_same others_sound.lists) in
    λ i. record { schema = schema i; trees = (same ∙ sym others_same) i }

not_both : (trees : Trees) → IsWholeDesk trees → AreBlank trees → ⊥
not_both trees whole blank =
    never_both (desk_with trees) (subst IsUnmade
    (one_database trees blank.found (desk_with trees) blank.sound blank.same whole.sound refl)
    blank.unmade) refl

-- a connection that was just opened is in no transaction
pub settled : (s : State) → Opens s → IsSettled s
settled s opens = record { is_open = opens.is_open; mode = opens.autocommit; now = opens.clean }

-- what may be found is sound
pub sound_found : (recovers : Trees → Type 0) (t : Tables) → KeepsDesk recovers →
    MayKeep recovers t → Sound t
sound_found recovers t keeps (trees, may, inr blank) = subst Sound (sym blank.1) empty_sound
sound_found recovers t keeps (trees, may, inl held) = elim (keeps trees may) [
  | inl desk ↦ subst Sound held.1 desk.1
  | inr blank ↦ absurd (not_both trees held.0 blank)
]

-- whole trees keep the tables that they hold
pub keep_whole : (trees : Trees) (t : Tables) → IsWholeDesk trees → KeepTables trees t →
    tables_with trees ≡ t
keep_whole trees t whole (inl held) = held.1
keep_whole trees t whole (inr blank) = absurd (not_both trees whole blank.0)

-- ---- a store that is taken

pub found_again : (old conn new : State) → Reopens old conn → (IsSettled conn → Adopts conn new) →
    KeepsDesk old.may_leave → IsOurs new × MayKeep old.may_leave (tables_in new.committed)
found_again old conn new it adopts keeps =
    let trees = conn.now.trees in
    let sound = (it.live it.opens.is_open).0 in
    let taken = adopts (settled conn it.opens) in
    elim (keeps trees it.left) [
      | inl desk ↦
          let is = one_database trees conn.now (desk_with trees) sound refl desk.0.sound refl in
          let kept = taken.same (subst HoldsTables (sym is) desk.0.holds) in
          (kept.0, (trees, it.left, inl (desk.0, sym (kept.1 ∙ ap tables_in is))))
      | inr blank ↦
          let is = one_database trees conn.now blank.found sound refl blank.sound blank.same in
          let made = taken.empty (subst IsUnmade (sym is) blank.unmade) in
          (made.0, (trees, it.left, inr (blank, made.1)))
    ]

-- ---- a store that is not taken

empty_tables : (trees : Trees) (t : Tables) → HoldDesk trees no_tables → KeepTables trees t →
    t ≡ no_tables
empty_tables trees t held (inl desk) = sym desk.1 ∙ held.tables
empty_tables trees t held (inr blank) = blank.1

-- a stop leaves what was found, or an empty desk, where nothing was made in it
pub not_taken : (old conn new : State) → Reopens old conn
    → ((trees : Trees) → conn.may_leave trees → trees ≡ conn.committed.trees)
    → ((trees : Trees) → new.may_leave trees
    → conn.may_leave trees ⊎ (IsUnmade conn.now × HoldDesk trees no_tables))
    → KeepsDesk old.may_leave → KeepsDesk new.may_leave
    × ((t : Tables) → MayKeep new.may_leave t → MayKeep old.may_leave t)
not_taken old conn new it rests less keeps = (keeps_on, may_on) where
  was_left : (trees : Trees) → conn.may_leave trees → old.may_leave trees
  was_left trees may = subst old.may_leave (sym (rests trees may
      ∙ ap (λ (db : Database). db.trees) (sym it.opens.clean))) it.left

  blank : IsUnmade conn.now → AreBlank conn.now.trees
  blank unmade = record {
    found = conn.now;
    same = refl;
    sound = (it.live it.opens.is_open).0;
    unmade = unmade;
  }

  keeps_on : KeepsDesk new.may_leave
  keeps_on trees left = elim (less trees left) [
    | inl was ↦ keeps trees (was_left trees was)
    | inr made ↦ inl (
      whole_held trees no_tables made.1 none_counted,
      subst Sound (sym made.1.tables) empty_sound,
    )
  ]

  may_on : (t : Tables) → MayKeep new.may_leave t → MayKeep old.may_leave t
  may_on t (trees, left, kept) = elim (less trees left) [
    | inl was ↦ (trees, was_left trees was, kept)
    | inr made ↦ (
      conn.now.trees,
      it.left,
      inr (blank made.0, empty_tables trees t made.1 kept),
    )
  ]

-- ---- a migration

pub begins : (old new : State) → ((trees : Trees) → new.may_leave trees →
    (trees ≡ old.now.trees) ⊎ TreesOfThird (lifted_in earlier_hold old.now) trees) →
    BeginsHistory old new
begins old new left sound trees may = elim (left trees may) [
  | inl same ↦ inl same
  | inr held ↦
      let desk = third_is_desk (desk_with trees) held.holds.third in
      let all = sound_lifted old.now (desk_with trees) held.holds sound in
      inr (record {
        whole = record { sound = held.sound; holds = record { desk = desk; counted = all.counts } };
        sound = all;
        lifted = customers_lifted old.now (desk_with trees) held.holds;
      })
]

pub upgraded : (old new : State) → ((trees : Trees) → new.may_leave trees →
    (trees ≡ old.now.trees) ⊎ TreesOfThird (second_tables_in old.now) trees) →
    BeginsUpgraded old new
upgraded old new left sound trees may = elim (left trees may) [
  | inl same ↦ inl same
  | inr held ↦
      let desk = third_is_desk (desk_with trees) held.holds.third in
      let all = subst Sound (sym held.holds.tables) sound in
      inr (record {
        whole = record { sound = held.sound; holds = record { desk = desk; counted = all.counts } };
        tables = held.holds.tables;
      })
]
