-- What a stop leaves of a shelf.
use Rattle.std.proofs.Common.{◌≡◌, inl, inr, IsTrue, false, ℕ, List, Result, sym, ap, ◌∙◌}
use Rattle.std.proofs.Common.{subst}
use Rattle.sqlite.specs.declared.error.Error.{Error}
use Rattle.sqlite.specs.Held.{Held, state}
use Rattle.sqlite.specs.Effect.{Database, IsDatabase}
use Rattle.sqlite.specs.State.{HasCleanDisk, IsLive}
use Rattle.sqlite.specs.Tree.{Trees}
use Rattle.sqlite_trees.specs.declared.store.Store.{Ghosts}
use Rattle.hq_keyed.specs.Left.{IsQuiet, LeavesNoMore}
use Rattle.hq_keyed.proofs.Left.{clean_before}
use Rattle.hq_schema.specs.Schema.{desk_schema}
use Rattle.hq_values.specs.declared.failure.Fault.{Fault}
use Rattle.hq_tables.specs.Shelves.{Keeps, StopLeavesTables, StopLeavesNoMore}
use Rattle.hq_tables.specs.Sound.{AreCounted}
use Rattle.hq_tables.specs.Tables.{Tables}
use Rattle.hq_sql.specs.Tables.{tables_in}
use Rattle.hq_sql_open.specs.Found.{HoldDesk, desk_with, tables_with}
use Rattle.hq_sql_open.specs.declared.transaction.Standing.TheVariants.{Open}
use Rattle.hq_sql_shelf.specs.declared.shelf.SqlShelf.{SqlShelf}
use Rattle.hq_sql_shelf.specs.Shelf.{IsWholeDesk, IsOurs, HoldsTables, sight_over, is_gone}
use Rattle.hq_sql_shelf.specs.Stops.{LeavesWhole, LeavesOnly}
use Rattle.hq_sql_changes.specs.Done.{worked}
use Rattle.hq_sql_changes.specs.Transacted.{LeavesTables, KeepsTransaction}
use Rattle.hq_sql_changes.specs.declared.work.Work.{Work}
use Rattle.hq_sql_changes.proofs.DoneAs.{counts_done}
use Rattle.hq_sql_shelf.proofs.Ours.{at_rest, open_stands}

-- ---- trees

is_desk_with : (db : Database) (trees : Trees) → db.schema ≡ desk_schema → trees ≡ db.trees →
    db ≡ desk_with trees
is_desk_with db trees is same = λ i. record { schema = is i; trees = sym same i }

pub whole_held : (trees : Trees) (t : Tables) → HoldDesk trees t → AreCounted t → IsWholeDesk trees
whole_held trees t held counted = record {
  sound = held.sound;
  holds = record { desk = held.desk; counted = subst AreCounted (sym held.tables) counted };
}

pub whole_with : (db : Database) (trees : Trees) → IsDatabase db → HoldsTables db →
    trees ≡ db.trees → IsWholeDesk trees × (tables_with trees ≡ tables_in db)
whole_with db trees sound holds same =
    let is = is_desk_with db trees holds.desk.schema_is same in (
      record { sound = subst IsDatabase is sound; holds = subst HoldsTables is holds },
      ap tables_in (sym is),
    )

-- ---- a shelf

module _ {S M : Type 0} (refused failed : Type 0) (g : Ghosts S) where
  -- what the connection leaves the shelf leaves
  pub no_more : (old new : SqlShelf S M) → HasCleanDisk (state g new.conn) →
      LeavesNoMore (state g old.conn) (state g new.conn) →
      StopLeavesNoMore (sight_over refused failed (state g)) old new
  no_more old new clean less = (
    λ desk db may. desk db (less clean db may),
    λ t left. (left.0, less clean left.0 left.1, left.2),
  )

-- the law of a store: while it is open it leaves what it has committed
abbrev pub LeavesCommit : {S : Type 0} → Ghosts S → Type 0
LeavesCommit {S} g = (s : S) (db : Trees) → IsTrue (g.view s).is_open → g.recovers s db →
    db ≡ (g.view s).committed

module _ {S : Type 0} (g : Ghosts S) (law : LeavesCommit g) where
  -- an open desk leaves what it has committed
  pub open_leaves : (conn : Held S) → IsLive (state g conn) → IsOurs (state g conn) →
      LeavesOnly (state g conn) (tables_in (state g conn).committed)
  open_leaves conn live ours db may =
      whole_with (state g conn).committed db (live ours.settled.is_open).1 ours.holds
      (law conn.store db ours.settled.is_open may)

  -- what changes leave that are made or fail behind a call that makes ready
  pub written_leaves : (old mid new : Held S) (t : Tables) → IsLive (state g old) →
      IsOurs (state g old) → AreCounted t → IsQuiet (state g mid) (state g new) →
      LeavesNoMore (state g old) (state g mid) → LeavesTables (state g mid) (state g new) t →
      LeavesWhole (state g old) (state g new) (tables_in (state g old).committed) t
  written_leaves old mid new t live ours counted quiet less leaves clean db may =
      elim (leaves clean db may) [
        | inl was ↦
            let left = open_leaves old live ours db
            (less (clean_before (state g mid) (state g new) quiet clean) db was) in
            (left.0, inl left.1)
        | inr held ↦ (whole_held db t held counted, inr held.tables)
      ]

module _ {S M : Type 0} (refused failed : Type 0) (g : Ghosts S) (law : LeavesCommit g) where
  -- and so does a shelf over it
  pub stop_leaves : (s : SqlShelf S M) → IsLive (state g s.conn) → IsOurs (state g s.conn) →
      StopLeavesTables (sight_over refused failed (state g)) s
  stop_leaves s live ours =
      let only = open_leaves g law s.conn live ours in (
        λ db may. (only db may).0,
        λ t left. sym left.2 ∙ (only left.0 left.1).1,
      )

  -- and where the tables are those before with work done
  pub work_leaves : (old mid : SqlShelf S M) (new : Held S) (customer : List ℕ)
      (work : Work) {X Y : Type 0} (ready : Result X Fault) (made : Result Y Error) →
      IsLive (state g old.conn) → Keeps (sight_over refused failed (state g)) old mid ready →
      is_gone mid.standing ≡ false → mid.standing ≡ Open →
      LeavesNoMore (state g old.conn) (state g mid.conn) →
      KeepsTransaction (state g mid.conn) (state g new) made
      (worked customer work (tables_in (state g mid.conn).committed)) →
      IsOurs (state g old.conn) → LeavesWhole (state g old.conn) (state g new)
      (tables_in (state g old.conn).committed)
      (worked customer work (tables_in (state g old.conn).committed))
  work_leaves old mid new customer work ready made live first stays stands less kept ours
      clean db may =
      let seen = open_stands mid.standing (state g mid.conn) stands
      (clean_before (state g mid.conn) (state g new) kept.quiet clean) in
      let owned = first.ours seen ours stays in
      written_leaves g law old.conn mid.conn new _ live ours
      (counts_done customer work (tables_in (state g old.conn).committed) ours.holds.counted)
      kept.quiet less (subst (λ t. LeavesTables (state g mid.conn) (state g new)
      (worked customer work t)) (first.same seen ours stays)
      (kept.stops (at_rest (state g mid.conn) owned) owned.holds.counted)) clean db may

  -- an open desk that some call left so leaves what it has committed
  pub still_leaves : (old new : SqlShelf S M) (before after : Tables) →
      LeavesWhole (state g old.conn) (state g new.conn) before after →
      HasCleanDisk (state g new.conn) → IsOurs (state g new.conn) →
      StopLeavesTables (sight_over refused failed (state g)) new
  still_leaves old new before after whole clean ours = (
    λ db may. (whole clean db may).0,
    λ t left. sym left.2 ∙ ap tables_in (sym (is_desk_with (state g new.conn).committed left.0
        ours.holds.desk.schema_is (law new.conn.store left.0 ours.settled.is_open left.1))),
  )
