-- What the calls of a round keep.
use Rattle.std.proofs.Common.{◌≡◌, ◌⊎◌, ⊎_elim, true≢false, true, false, IsTrue, Ok, Err}
use Rattle.std.proofs.Common.{ℕ, List, refl, sym, ap, ◌∙◌, subst}
use Rattle.std.specs.Prelude.{⊤}
use Rattle.sqlite.specs.Held.{Held, state}
use Rattle.sqlite.specs.State.{State, HasCleanDisk, KeepsCommit}
use Rattle.sqlite.specs.declared.error.Error.{Error}
use Rattle.sqlite_trees.specs.declared.store.Store.{Ghosts}
use Rattle.hq_values.specs.declared.failure.Fault.{Fault}
use Rattle.hq_values.specs.declared.failure.Fault.TheVariants.{Closed}
use Rattle.hq_keyed.proofs.Left.{clean_before}
use Rattle.hq_keyed.specs.Left.{LeavesNoMore}
use Rattle.hq_tables.specs.Shelves.{Keeps, KeepsOnErr}
use Rattle.hq_tables.specs.Sound.{AreCounted}
use Rattle.hq_tables.specs.Tables.{Tables}
use Rattle.hq_sql.specs.Kept.{Intact, KeepsCommitted, Writes}
use Rattle.hq_sql.specs.Tables.{Leaves, tables_in}
use Rattle.hq_sql_changes.specs.Done.{made_of, worked}
use Rattle.hq_sql_changes.specs.declared.work.Work.{Work}
use Rattle.hq_sql_changes.proofs.DoneAs.{counts_done, done_is}
use Rattle.hq_sql_shelf.specs.Shelf.{HoldsTables}
use Rattle.hq_sql_shelf.specs.Rounds.{GoesBackTo, IsInRound, ended_round, sight_inside}
use Rattle.hq_sql_shelf.specs.declared.rounds.SqlRound.{SqlRound}

-- a round over this connection
abbrev pub over_conn : {S M : Type 0} → SqlRound S M → Held S → SqlRound S M
over_conn s conn = record s { shelf = record s.shelf { conn = conn } }

-- the same as another that is open
abbrev pub IsOpenSame : {S M : Type 0} → SqlRound S M → SqlRound S M → Type 0
IsOpenSame old mid = (mid ≡ old) × (old.over ≡ false)

-- what making says of the work that was done
abbrev pub Makes : State → State → List ℕ → Work → Type 0
Makes old new c work = IsTrue old.is_open → Writes {X = ⊤} old new (Ok tt) (made_of c work)

module _ {S M : Type 0} (g : Ghosts S) (old : SqlRound S M) where
  -- it goes back to the same
  pub still : (conn : Held S) → HasCleanDisk (state g conn) →
      LeavesNoMore (state g old.shelf.conn) (state g conn) →
      KeepsCommit (state g old.shelf.conn) (state g conn) →
      (t : Tables) → GoesBackTo (state g old.shelf.conn) t → GoesBackTo (state g conn) t
  still conn clean less kept t back = record {
    stops = λ trees may. back.stops trees (less clean trees may);
    committed = λ open_. subst (λ db. HoldsTables db × (tables_in db ≡ t))
        (sym (kept.committed open_)) (back.committed (kept.was_open open_));
  }

  -- a call that reads, where it answers
  answered_here : {Y Z : Type 0} (conn : Held S) (y : Y) (z : Z) → old.over ≡ false →
      Intact (state g old.shelf.conn) (state g conn) (Ok y) →
      Keeps (sight_inside (state g)) old (over_conn old conn) (Ok z)
  answered_here conn y z over kept = record {
    same = λ clean ours opened. ap tables_in (kept.same clean ours.holds.desk).0.now_is;
    ours = λ clean ours opened.
        let shown = (kept.same clean ours.holds.desk).0 in
        record {
          is_open = shown.is_open;
          mode = subst IsTrue (sym shown.mode) ours.mode;
          holds = subst HoldsTables (sym shown.now_is) ours.holds;
        };
    round = λ clean either t back. ⊎_elim (λ (ours : IsInRound (state g old.shelf.conn)).
        let shown = (kept.same clean ours.holds.desk).0 in
        still conn clean (kept.stops ours.holds.desk) (record {
          was_open = λ open_. shown.was_open;
          committed = λ open_. shown.committed_is;
        }) t back)
        (λ (closed : old.over ≡ true). absurd (true≢false (sym closed ∙ over))) either;
    quiet = clean_before (state g old.shelf.conn) (state g conn) kept.quiet;
    tally = (over, over, refl);
    cause = tt;
    stops = λ clean either. (λ desk. desk, λ t may. may);
  }

  -- and where a statement fails
  failed_here : {Y Z : Type 0} (conn : Held S) (error : Error) → old.over ≡ false →
      Intact {X = Y} (state g old.shelf.conn) (state g conn) (Err error) →
      Keeps {X = Z} (sight_inside (state g)) old (ended_round (over_conn old conn)) (Err Closed)
  failed_here conn error over kept = record {
    same = λ clean ours opened. absurd (true≢false opened);
    ours = λ clean ours opened. absurd (true≢false opened);
    round = λ clean either t back. ⊎_elim (λ (ours : IsInRound (state g old.shelf.conn)).
        still conn clean (kept.stops ours.holds.desk) (kept.kept clean ours.holds.desk) t back)
        (λ (closed : old.over ≡ true). absurd (true≢false (sym closed ∙ over))) either;
    quiet = clean_before (state g old.shelf.conn) (state g conn) kept.quiet;
    tally = (refl, refl);
    cause = refl;
    stops = λ clean either. (λ desk. desk, λ t may. may);
  }

  -- what work leaves
  made_here : (conn : Held S) (c : List ℕ) (work : Work) →
      Makes (state g old.shelf.conn) (state g conn) c work →
      HasCleanDisk (state g conn) → IsInRound (state g old.shelf.conn) →
      Leaves (state g old.shelf.conn) (state g conn)
      (worked c work (tables_in (state g old.shelf.conn).now))
  made_here conn c work made clean ours =
      subst (Leaves (state g old.shelf.conn) (state g conn))
      (done_is c work (tables_in (state g old.shelf.conn).now) ours.holds.counted)
      (made ours.is_open clean ours.holds.desk)

  -- it goes back to the same behind work, done or not
  still_back : (conn : Held S) → old.over ≡ false →
      KeepsCommitted (state g old.shelf.conn) (state g conn) → HasCleanDisk (state g conn) →
      IsInRound (state g old.shelf.conn) ⊎ (old.over ≡ true) → (t : Tables) →
      GoesBackTo (state g old.shelf.conn) t → GoesBackTo (state g conn) t
  still_back conn over kept clean either t back = ⊎_elim
      (λ (ours : IsInRound (state g old.shelf.conn)). still conn clean
      (kept.stops ours.holds.desk ours.mode) (kept.kept clean ours.holds.desk ours.mode) t back)
      (λ (closed : old.over ≡ true). absurd (true≢false (sym closed ∙ over))) either

  -- work that is done
  changed_here : (conn : Held S) (c : List ℕ) (work : Work) → old.over ≡ false →
      Makes (state g old.shelf.conn) (state g conn) c work →
      KeepsCommitted (state g old.shelf.conn) (state g conn) →
      KeepsOnErr {X = ⊤} (sight_inside (state g)) old (over_conn old conn) (Ok tt)
  changed_here conn c work over made kept = record {
    none = λ clean ours opened. tt;
    ours = λ clean ours opened.
        let left = made_here conn c work made clean ours in
        record {
          is_open = left.is_open;
          mode = subst IsTrue (sym left.mode) ours.mode;
          holds = record {
            desk = left.desk;
            counted = subst AreCounted (sym left.tables)
                (counts_done c work (tables_in (state g old.shelf.conn).now) ours.holds.counted);
          };
        };
    round = still_back conn over kept;
    quiet = clean_before (state g old.shelf.conn) (state g conn) kept.quiet;
    tally = (over, over, refl);
    cause = tt;
    rests = λ clean ours opened rests. (tt, λ t may. absurd may);
    shut = λ clean closed. absurd (true≢false (sym closed ∙ over));
  }

  -- and that fail
  unchanged_here : (conn : Held S) → old.over ≡ false →
      KeepsCommitted (state g old.shelf.conn) (state g conn) →
      KeepsOnErr {X = ⊤} (sight_inside (state g)) old (ended_round (over_conn old conn))
      (Err Closed)
  unchanged_here conn over kept = record {
    none = λ clean ours opened. absurd (true≢false opened);
    ours = λ clean ours opened. absurd (true≢false opened);
    round = still_back conn over kept;
    quiet = clean_before (state g old.shelf.conn) (state g conn) kept.quiet;
    tally = (refl, refl);
    cause = refl;
    rests = λ clean ours opened rests. absurd (true≢false opened);
    shut = λ clean closed. absurd (true≢false (sym closed ∙ over));
  }

  module _ (mid : SqlRound S M) (is : IsOpenSame old mid) where
    pub answered : {Y Z : Type 0} (conn : Held S) (y : Y) (z : Z) →
        Intact (state g mid.shelf.conn) (state g conn) (Ok y) →
        Keeps (sight_inside (state g)) old (over_conn mid conn) (Ok z)
    answered conn y z kept =
        subst (λ s. Keeps (sight_inside (state g)) old (over_conn s conn) (Ok z)) (sym is.0)
        (answered_here conn y z is.1
        (subst (λ s. Intact (state g s.shelf.conn) (state g conn) (Ok y)) is.0 kept))

    pub failed : {Y Z : Type 0} (conn : Held S) (error : Error) (new : SqlRound S M)
        (fault : Fault) → new ≡ ended_round (over_conn mid conn) → fault ≡ Closed →
        Intact {X = Y} (state g mid.shelf.conn) (state g conn) (Err error) →
        Keeps {X = Z} (sight_inside (state g)) old new (Err fault)
    failed {Y = Y} {Z = Z} conn error new fault ends told kept =
        subst (λ n. Keeps {X = Z} (sight_inside (state g)) old n (Err fault))
        (sym (ends ∙ ap (λ s. ended_round (over_conn s conn)) is.0))
        (subst (λ f. Keeps {X = Z} (sight_inside (state g)) old (ended_round (over_conn old conn))
        (Err f)) (sym told)
        (failed_here {Y = Y} {Z = Z} conn error is.1
        (subst (λ s. Intact {X = Y} (state g s.shelf.conn) (state g conn) (Err error)) is.0
        kept)))

    pub made : (conn : Held S) (c : List ℕ) (work : Work) →
        Makes (state g mid.shelf.conn) (state g conn) c work → HasCleanDisk (state g conn) →
        IsInRound (state g old.shelf.conn) →
        tables_in (state g conn).now
        ≡ worked c work (tables_in (state g old.shelf.conn).now)
    made conn c work makes clean ours = (made_here conn c work
        (subst (λ s. Makes (state g s.shelf.conn) (state g conn) c work) is.0 makes) clean
        ours).tables

    pub changed : (conn : Held S) (c : List ℕ) (work : Work) →
        Makes (state g mid.shelf.conn) (state g conn) c work →
        KeepsCommitted (state g mid.shelf.conn) (state g conn) →
        KeepsOnErr {X = ⊤} (sight_inside (state g)) old (over_conn mid conn) (Ok tt)
    changed conn c work makes kept =
        subst (λ s. KeepsOnErr {X = ⊤} (sight_inside (state g)) old (over_conn s conn) (Ok tt))
        (sym is.0)
        (changed_here conn c work is.1
        (subst (λ s. Makes (state g s.shelf.conn) (state g conn) c work) is.0 makes)
        (subst (λ s. KeepsCommitted (state g s.shelf.conn) (state g conn)) is.0 kept))

    pub unchanged : (conn : Held S) (new : SqlRound S M) (fault : Fault) →
        new ≡ ended_round (over_conn mid conn) → fault ≡ Closed →
        KeepsCommitted (state g mid.shelf.conn) (state g conn) →
        KeepsOnErr {X = ⊤} (sight_inside (state g)) old new (Err fault)
    unchanged conn new fault ends told kept =
        subst (λ n. KeepsOnErr {X = ⊤} (sight_inside (state g)) old n (Err fault))
        (sym (ends ∙ ap (λ s. ended_round (over_conn s conn)) is.0))
        (subst (λ f. KeepsOnErr {X = ⊤} (sight_inside (state g)) old
        (ended_round (over_conn old conn)) (Err f)) (sym told)
        (unchanged_here conn is.1
        (subst (λ s. KeepsCommitted (state g s.shelf.conn) (state g conn)) is.0 kept)))
