-- How a round begins, stands and goes back.
use Rattle.std.proofs.Common.{◌≡◌, ◌⊎◌, inl, inr, ⊎_elim, true≢false, true, false, Bool, IsTrue}
use Rattle.std.proofs.Common.{ℕ, Ok, Err, refl, sym, ap, ◌∙◌, subst}
use Rattle.sqlite.specs.Held.{Held, state}
use Rattle.sqlite.specs.State.{State, HasCleanDisk, IsLive, KeepsCommit}
use Rattle.sqlite.specs.Tree.{Trees}
use Rattle.sqlite.specs.declared.error.Error.{Error}
use Rattle.sqlite_trees.specs.declared.store.Store.{Ghosts}
use Rattle.hq_values.specs.declared.failure.Fault.{Fault}
use Rattle.hq_values.specs.declared.failure.Fault.TheVariants.{WantOfMemory, Disk, BadSchema}
use Rattle.hq_values.specs.declared.failure.Fault.TheVariants.{Closed}
use Rattle.hq_keyed.proofs.Left.{clean_before}
use Rattle.hq_keyed.specs.Left.{IsQuiet, LeavesNoMore}
use Rattle.hq_tables.specs.Shelves.{IsTallied, Keeps, Sight, StopLeaves}
use Rattle.hq_tables.specs.Tables.{Tables}
use Rattle.hq_rounds.specs.Rounds.{BeginsRound, EndsRound, StaysOut}
use Rattle.hq_sql.specs.Kept.{Intact}
use Rattle.hq_sql.specs.Tables.{tables_in}
use Rattle.hq_sql_open.specs.Found.{tables_with}
use Rattle.hq_sql_open.specs.Standings.{Settles}
use Rattle.hq_sql_open.specs.Transactions.{IsBegun, IsDone, KeepsOrCommits, KeepsUnlessDone}
use Rattle.hq_sql_open.specs.Transactions.{LeavesAlso}
use Rattle.hq_sql_open.specs.declared.transaction.Standing.{Standing}
use Rattle.hq_sql_open.specs.declared.transaction.Standing.TheVariants.{Open}
use Rattle.hq_sql_shelf.specs.Shelf.{HoldsTables, IsOurs, IsWholeDesk, is_gone, sight_over}
use Rattle.hq_sql_shelf.specs.Rounds.{IsInRound, sight_inside}
use Rattle.hq_sql_shelf.specs.declared.shelf.SqlShelf.{SqlShelf}
use Rattle.hq_sql_shelf.specs.declared.rounds.SqlRound.{SqlRound}
use Rattle.hq_sql_shelf.proofs.Ours.{open_stands}
use Rattle.hq_sql_shelf.proofs.Reading.{still_settled}
use Rattle.hq_sql_shelf.proofs.Stops.{LeavesCommit, open_leaves, stop_leaves, whole_with}

-- a shelf that ended a call in a fault and is open was open
was_open : (X : Type 0) (was is : Bool) (m n : ℕ) (fault : Fault) →
    IsTallied {X = X} was is m n (Err fault) → is ≡ false → was ≡ false
was_open X was is m n WantOfMemory it open_ = it.0
was_open X was is m n Disk it open_ = it.0
was_open X was is m n BadSchema it open_ = absurd it
was_open X was is m n Closed it open_ = absurd (true≢false (sym it.0 ∙ open_))

-- beginning a transaction failed, and it is as if nothing was read
pub as_read : {X : Type 0} (old new : State) (e : Error) → KeepsUnlessDone {X = X} old new (Err e) →
    Intact {X = X} old new (Err e)
as_read old new e kept = record {
  same = λ clean desk. tt;
  kept = λ clean desk. kept.kept clean;
  quiet = kept.quiet;
  stops = λ desk. kept.stops;
}

module _ {S M : Type 0} (refused failed : Type 0) (g : Ghosts S) where
  abbrev outside : Sight (SqlShelf S M)
  outside = sight_over refused failed (state g)

  abbrev inside : Sight (SqlRound S M)
  inside = sight_inside (state g)

  -- no round began, as a call before it ended in a fault
  pub stays_out : {X : Type 0} (old new : SqlShelf S M) (fault : Fault) →
      Keeps {X = X} outside old new (Err fault) →
      StaysOut outside old (record new { faults = old.faults })
  stays_out {X = X} old new fault kept = record {
    same = kept.same;
    ours = kept.ours;
    quiet = kept.quiet;
    stays_open = was_open X (is_gone old.standing) (is_gone new.standing) old.faults new.faults
        fault kept.tally;
    counted = refl;
    stops = kept.stops;
  }

  module _ (law : LeavesCommit g) where
    -- a round began, behind a call that made ready
    pub begins : (old mid : SqlShelf S M) (conn : Held S) {X Y : Type 0} (x : X) (y : Y) →
        IsLive (state g old.conn) → Keeps outside old mid (Ok x) → mid.standing ≡ Open →
        LeavesNoMore (state g old.conn) (state g mid.conn) →
        (HasCleanDisk (state g conn) → IsBegun (state g mid.conn) (state g conn)) →
        KeepsUnlessDone (state g mid.conn) (state g conn) (Ok y) →
        BeginsRound outside inside old (record { shelf = record mid { conn = conn }; over = false })
    begins old mid conn x y live first stands less begun kept =
        let seen = λ (clean : HasCleanDisk (state g conn)).
        open_stands mid.standing (state g mid.conn) stands
        (clean_before (state g mid.conn) (state g conn) kept.quiet clean) in
        let owned = λ (clean : HasCleanDisk (state g conn)) (ours : IsOurs (state g old.conn)).
        first.ours (seen clean) ours first.tally.1 in
        record {
          was_open = first.tally.0;
          is_open = refl;
          tables = λ clean ours. ap tables_in ((begun clean).now_is
              ∙ (owned clean ours).settled.now) ∙ first.same (seen clean) ours first.tally.1;
          back = λ clean ours. record {
            stops = λ trees may. open_leaves g law old.conn live ours trees
                (less (seen clean).0 trees (kept.stops clean trees may));
            committed = λ open_. (
              subst HoldsTables (sym (begun clean).committed_is) (owned clean ours).holds,
              ap tables_in (begun clean).committed_is
                  ∙ first.same (seen clean) ours first.tally.1,
            );
          };
          ours = λ clean ours. record {
            is_open = (begun clean).is_open;
            mode = subst IsTrue (sym (begun clean).mode) refl;
            holds = subst HoldsTables (sym ((begun clean).now_is
                ∙ (owned clean ours).settled.now)) (owned clean ours).holds;
          };
          quiet = λ clean. first.quiet (seen clean);
          counted = first.tally.2;
        }

    -- what a stop leaves of a round that ends
    abbrev LeavesRound : SqlRound S M → Held S → Type 0
    LeavesRound old conn = HasCleanDisk (state g conn) → (trees : Trees) →
        (state g conn).may_leave trees → (state g old.shelf.conn).may_leave trees
        ⊎ ((old.over ≡ false) × (trees ≡ (state g old.shelf.conn).now.trees))

    left_by : (old : SqlRound S M) (new : SqlShelf S M) → IsLive (state g old.shelf.conn) →
        LeavesRound old new.conn → outside.is_clean new → (t : Tables) →
        inside.goes_back old t → (inside.is_closed old ≡ false → inside.is_ours old) →
        (trees : Trees) → (state g new.conn).may_leave trees → IsWholeDesk trees
        × ((tables_with trees ≡ t)
        ⊎ ((old.over ≡ false) × (tables_with trees ≡ inside.tables old)))
    left_by old new live leaves clean t back mine trees may = elim (leaves clean.0 trees may) [
      | inl was ↦ let left = back.stops trees was in (left.0, inl left.1)
      | inr all ↦
          let ours = mine all.0 in
          let left = whole_with (state g old.shelf.conn).now trees (live ours.is_open).0
          ours.holds all.1 in (left.0, inr (all.0, left.1))
    ]

    leaves_round : (old : SqlRound S M) (new : SqlShelf S M) → IsLive (state g old.shelf.conn) →
        LeavesRound old new.conn → outside.is_clean new → (t : Tables) →
        inside.goes_back old t → (inside.is_closed old ≡ false → inside.is_ours old) →
        StopLeaves outside new
        (λ t'. (t' ≡ t) ⊎ ((inside.is_closed old ≡ false) × (t' ≡ inside.tables old)))
    leaves_round old new live leaves clean t back mine = (
      λ trees may. (left_by old new live leaves clean t back mine trees may).0,
      λ t' left. ⊎_elim (λ (is : tables_with left.0 ≡ t). inl (sym left.2 ∙ is))
          (λ (all : (old.over ≡ false) × (tables_with left.0 ≡ inside.tables old)).
          inr (all.0, sym left.2 ∙ all.1))
          (left_by old new live leaves clean t back mine left.0 left.1).1,
    )

    -- a commit leaves what a round may leave
    pub leaves_all : (old : SqlRound S M) (conn : Held S) → old.over ≡ false →
        LeavesAlso (state g old.shelf.conn) (state g conn) (state g old.shelf.conn).now.trees →
        LeavesRound old conn
    leaves_all old conn open_ leaves clean trees may = ⊎_elim
        (λ (was : (state g old.shelf.conn).may_leave trees). inl was)
        (λ (is : trees ≡ (state g old.shelf.conn).now.trees). inr (open_, is))
        (leaves clean trees may)

    -- a round was committed, and stands
    pub stands : (old : SqlRound S M) (conn : Held S) (standing : Standing) (faults : ℕ)
        {Y : Type 0} (y : Y) → old.over ≡ false → standing ≡ Open →
        IsLive (state g old.shelf.conn) → IsLive (state g conn) →
        (HasCleanDisk (state g conn) → IsDone (state g old.shelf.conn) (state g conn)) →
        KeepsOrCommits (state g old.shelf.conn) (state g conn) (Ok y) →
        EndsRound inside outside old faults true
        (record old.shelf { conn = conn; standing = standing })
    stands old conn standing faults y open_ is live lives done kept =
        let new : SqlShelf S M = record old.shelf { conn = conn; standing = standing } in
        let own : HasCleanDisk (state g conn) → IsInRound (state g old.shelf.conn) →
        IsOurs (state g conn) = λ clean ours. record {
          settled = record {
            is_open = (done clean).is_open;
            mode = (done clean).mode;
            now = (done clean).now_is ∙ sym (done clean).committed_is;
          };
          holds = subst HoldsTables (sym (done clean).committed_is) ours.holds;
        } in
        record {
          stays_open = λ up. (open_, ap is_gone is);
          made = λ clean ours up. record {
            tables = ap tables_in (done clean.0).committed_is;
            ours = own clean.0 ours;
            stops = stop_leaves refused failed g law new lives (own clean.0 ours);
          };
          back = λ clean t back open_ down. absurd (true≢false down);
          quiet = λ clean. clean_before (state g old.shelf.conn) (state g conn) kept.quiet
              clean.0;
          counted = refl;
          stops = λ clean. leaves_round old new live (leaves_all old conn open_ kept.stops) clean;
        }

    -- a round goes back
    pub goes_back : (old : SqlRound S M) (tried : Held S) (new : SqlShelf S M) (faults : ℕ) →
        IsLive (state g old.shelf.conn) → IsLive (state g new.conn) →
        (HasCleanDisk (state g tried) → KeepsCommit (state g old.shelf.conn) (state g tried)) →
        IsQuiet (state g old.shelf.conn) (state g tried) → LeavesRound old tried →
        Settles (state g tried) (state g new.conn) new.standing → new.faults ≡ faults →
        EndsRound inside outside old faults false new
    goes_back old tried new faults live lives commit quiet leaves settles counted =
        let before = clean_before (state g tried) (state g new.conn) settles.quiet in
        let kept : HasCleanDisk (state g new.conn) → IsTrue (state g new.conn).is_open →
        (state g new.conn).committed ≡ (state g old.shelf.conn).committed = λ clean open_.
        let undone = (settles.undone clean).kept in
        undone.committed open_ ∙ (commit (before clean)).committed (undone.was_open open_) in
        record {
          stays_open = λ up. absurd (true≢false (sym up));
          made = λ clean ours up. absurd (true≢false (sym up));
          back = λ clean t back open_ down.
              let settled = still_settled (state g tried) (state g new.conn) new.standing settles
              clean.0 clean.1 open_ in
              let is = kept clean.0 settled.is_open in
              let was = (commit (before clean.0)).was_open
              ((settles.undone clean.0).kept.was_open settled.is_open) in
              let ours : IsOurs (state g new.conn) = record {
                settled = settled;
                holds = subst HoldsTables (sym is) (back.committed was).0;
              } in
              record {
                tables = ap tables_in is ∙ (back.committed was).1;
                ours = ours;
                stops = stop_leaves refused failed g law new lives ours;
              };
          quiet = λ clean. clean_before (state g old.shelf.conn) (state g tried) quiet
              (before clean.0);
          counted = counted;
          stops = λ clean. leaves_round old new live (λ still trees may.
              leaves (before still) trees (settles.stops still trees may)) clean;
        }
