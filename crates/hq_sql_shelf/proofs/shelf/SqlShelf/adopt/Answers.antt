use Rattle.std.proofs.Common.{sym, ap, subst}
use Rattle.sqlite.specs.Held.{state}
use Rattle.sqlite.specs.State.{HasCleanDisk, IsLive}
use Rattle.hq_sql_open.specs.Opening.{Opens}
use Rattle.hq_sql_shelf.specs.Shelf.{Adopts}
use Rattle.hq_sql_shelf.proofs.Ours.{adopts}
use Rattle.hq_sql_shelf.proofs.Stops.{stop_leaves}
use Rattle.hq_sql_shelf.proofs.shelf.SqlShelf.adopt.Goals as goal

pub returns-in-Ok-true-clause-opened : goal.returns-in-Ok-true-clause-opened
returns-in-Ok-true-clause-opened g c clean settled =
    let conn = ap (λ s. s.conn) c.over.ensures in
    subst (λ x. Adopts (state g.S.Store c.args.conn) (state g.S.Store x)) (sym conn)
    (adopts (state g.S.Store c.args.conn) (state g.S.Store c.open.new.conn) settled
    (subst (λ is. Opens is (state g.S.Store c.args.conn) (state g.S.Store c.open.new.conn))
    c.in-Ok-true.field-0-test (c.in-Ok-true.ensures.opened (subst
    (λ x. HasCleanDisk (state g.S.Store x)) conn clean) settled)))

pub returns-in-Ok-true-clause-rests : goal.returns-in-Ok-true-clause-rests
returns-in-Ok-true-clause-rests g c clean =
    stop_leaves g.M.Memory.refused g.M.SqliteMemory.failed g.S.Store g.met.S.Store.settled
    c.over.result (subst
    (λ x. IsLive (state g.S.Store x)) (sym (ap (λ s. s.conn) c.over.ensures))
    c.sees_database.ensures)
