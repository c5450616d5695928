-- What is made in one transaction is what is said, where the counts in the head rows are those of
-- the rows; and they stay so.
use Rattle.std.proofs.Common.{◌≡◌, ℕ, List, Result, refl, subst}
use Rattle.std.specs.Prelude.{OnOk}
use Rattle.sqlite.specs.declared.error.Error.{Error}
use Rattle.sqlite.specs.State.{State}
use Rattle.hq_tables.specs.Sound.{AreCounted}
use Rattle.hq_tables.specs.Tables.{Tables}
use Rattle.hq_isolation.proofs.Counted.{counts_stay}
use Rattle.hq_sql.specs.Tables.{tables_in}
use Rattle.hq_sql_open.specs.Transactions.{Commits}
use Rattle.hq_sql_changes.specs.Done.{made_of, worked}
use Rattle.hq_sql_changes.specs.Transacted.{KeepsTransaction, LeavesTables}
use Rattle.hq_sql_changes.specs.declared.work.Work.{Work}
use Rattle.hq_sql_changes.specs.declared.work.Work.TheVariants.{Changes, MoveOne, MoveAll}
use Rattle.hq_sql_changes.specs.declared.work.Work.TheVariants.{DropAllThen}
use Rattle.hq_sql_changes.specs.Dropped.{all_dropped}
use Rattle.hq_sql_changes.proofs.AllDropped.{counts_dropped}
use Rattle.hq_sql_changes.proofs.AllMoved.{counts_moved}
use Rattle.hq_sql_changes.proofs.OneMoved.{counts_one_moved}
use Rattle.hq_sql_changes.proofs.Recounted.{made_all_is}

pub done_is : (c : List ℕ) (w : Work) (t : Tables) → AreCounted t → made_of c w t ≡ worked c w t
done_is c (Changes changes) t h = made_all_is c changes.now t h
done_is c (MoveOne serial by) t h = refl
done_is c (MoveAll by) t h = refl
done_is c (DropAllThen more) t h =
    made_all_is c more.now (all_dropped c t) (counts_dropped c t h)

pub counts_done : (c : List ℕ) (w : Work) (t : Tables) → AreCounted t → AreCounted (worked c w t)
counts_done c (Changes changes) t h = counts_stay c changes.now t h
counts_done c (MoveOne serial by) t h = counts_one_moved c serial by t h
counts_done c (MoveAll by) t h = counts_moved c by t h
counts_done c (DropAllThen more) t h = counts_stay c more.now (all_dropped c t)
    (counts_dropped c t h)

pub all_committed : (new : State) (c : List ℕ) (w : Work) (t : Tables) → AreCounted t →
    {X : Type 0} (r : Result X Error) → OnOk r (Commits new (made_of c w t)) →
    OnOk r (Commits new (worked c w t))
all_committed new c w t h r = subst (λ u. OnOk r (Commits new u)) (done_is c w t h)

pub all_kept : {X : Type 0} (old new : State) (r : Result X Error) (c : List ℕ) (w : Work) →
    KeepsTransaction old new r (made_of c w (tables_in old.committed)) →
    KeepsTransaction old new r (worked c w (tables_in old.committed))
all_kept old new r c w k = record {
  kept = k.kept;
  quiet = k.quiet;
  stops = λ rest counted. subst (LeavesTables old new)
      (done_is c w (tables_in old.committed) counted) (k.stops rest counted);
}
