use Rattle.std.proofs.Common.{◌≡◌, true≢false, refl, sym, ap, ◌∙◌}
use Rattle.std.specs.Prelude.{⊤}
use Rattle.sqlite.specs.Held.{state}
use Rattle.sqlite.specs.State.{HasCleanDisk}
use Rattle.hq_keyed.proofs.Left.{clean_before}
use Rattle.hq_tables.specs.Shelves.{StopLeavesTables}
use Rattle.hq_sql.specs.Tables.{tables_in}
use Rattle.hq_sql_changes.specs.Done.{worked}
use Rattle.hq_sql_changes.proofs.DoneAs.{counts_done}
use Rattle.hq_sql_open.specs.Found.{tables_with}
use Rattle.hq_sql_shelf.specs.Shelf.{IsOurs, sight_over}
use Rattle.hq_sql_shelf.proofs.Ours.{at_rest, committed_ours, open_stands}
use Rattle.hq_sql_shelf.proofs.Reading.{ended}
use Rattle.hq_sql_shelf.proofs.Stops.{work_leaves, still_leaves}
use Rattle.hq_sql_shelf.proofs.shelf.SqlShelf.do_work.Given.{Over}
use Rattle.hq_sql_shelf.proofs.shelf.SqlShelf.do_work.Goals as goal

-- ---- it was made

pub returns-in-Ok-clause-stops : goal.returns-in-Ok-clause-stops
returns-in-Ok-clause-stops g c =
    let first = c.in_ok-ready.ensures.kept in
    work_leaves g.M.Memory.refused g.M.SqliteMemory.failed g.S.Store g.met.S.Store.settled
    c.args.self.now c.ready.new.self c.apply.new.conn
    c.args.customer.now c.args.work.now _ _ c.sees_database.ensures first first.tally.1
    c.in_ok-ready.ensures.open c.in_ok-ready.ensures.stops c.in-Ok.ensures.kept

made_after : (g : Over) (c : goal.In-Ok g) → HasCleanDisk (state g.S.Store c.apply.new.conn) →
    IsOurs (state g.S.Store c.args.self.now.conn) → IsOurs (state g.S.Store c.apply.new.conn)
    × (tables_in (state g.S.Store c.apply.new.conn).committed
    ≡ worked c.args.customer.now c.args.work.now
    (tables_in (state g.S.Store c.args.self.now.conn).committed))
made_after g c clean ours =
    let first = c.in_ok-ready.ensures.kept in
    let mid = state g.S.Store c.ready.new.self.conn in
    let new = state g.S.Store c.apply.new.conn in
    let seen = open_stands c.ready.new.self.standing mid c.in_ok-ready.ensures.open
    (clean_before mid new c.in-Ok.ensures.kept.quiet clean) in
    let owned = first.ours seen ours first.tally.1 in
    let made = c.in-Ok.ensures.made clean (at_rest mid owned) owned.holds.counted in (
      committed_ours new _ made (counts_done c.args.customer.now c.args.work.now
          (tables_in mid.committed) owned.holds.counted),
      ap tables_in (sym made.settled.now) ∙ made.tables
          ∙ ap (worked c.args.customer.now c.args.work.now)
          (first.same seen ours first.tally.1),
    )

left_after : (g : Over) (c : goal.In-Ok g) → HasCleanDisk (state g.S.Store c.apply.new.conn) →
    IsOurs (state g.S.Store c.args.self.now.conn) → StopLeavesTables
    (sight_over g.M.Memory.refused g.M.SqliteMemory.failed (state g.S.Store)) (record
    c.ready.new.self { conn = c.apply.new.conn })
left_after g c clean ours = still_leaves g.M.Memory.refused g.M.SqliteMemory.failed g.S.Store
    g.met.S.Store.settled c.args.self.now
    (record c.ready.new.self { conn = c.apply.new.conn }) _ _
    (returns-in-Ok-clause-stops g c ours) clean (made_after g c clean ours).0

pub returns-in-Ok-clause-durable : goal.returns-in-Ok-clause-durable
returns-in-Ok-clause-durable g c clean ours db may =
    let left = left_after g c clean ours in
    (left.0 db may, left.1 (tables_with db) (db, may, refl) ∙ (made_after g c clean ours).1)

pub returns-in-Ok-clause-kept : goal.returns-in-Ok-clause-kept
returns-in-Ok-clause-kept g c =
    let first = c.in_ok-ready.ensures.kept in
    let mid = state g.S.Store c.ready.new.self.conn in
    let new = state g.S.Store c.apply.new.conn in
    record {
      none = λ clean ours opened. tt;
      ours = λ clean ours opened. (made_after g c clean.0 ours).0;
      round = λ clean either t back. tt;
      quiet = λ clean. first.quiet (open_stands c.ready.new.self.standing mid
          c.in_ok-ready.ensures.open
          (clean_before mid new c.in-Ok.ensures.kept.quiet clean.0));
      tally = first.tally;
      cause = tt;
      rests = λ clean ours opened desk. left_after g c clean.0 ours;
      shut = λ clean closed. absurd (true≢false (sym closed ∙ first.tally.0));
    }

-- ---- it failed

pub returns-in-Err-clause-stops : goal.returns-in-Err-clause-stops
returns-in-Err-clause-stops g c ours clean db may =
    let first = c.in_ok-ready.ensures.kept in
    let settles = c.give_up.ensures.kept in
    work_leaves g.M.Memory.refused g.M.SqliteMemory.failed g.S.Store g.met.S.Store.settled
    c.args.self.now c.ready.new.self c.apply.new.conn
    c.args.customer.now c.args.work.now _ _ c.sees_database.ensures first first.tally.1
    c.in_ok-ready.ensures.open c.in_ok-ready.ensures.stops c.in-Err.ensures.kept ours
    (clean_before (state g.S.Store c.apply.new.conn) (state g.S.Store c.give_up.new.self.conn)
    settles.quiet clean) db (settles.stops clean db may)

pub returns-in-Err-clause-kept : goal.returns-in-Err-clause-kept
returns-in-Err-clause-kept g c =
    let first = c.in_ok-ready.ensures.kept in
    let mid = state g.S.Store c.ready.new.self.conn in
    let end = ended g.M.Memory.refused g.M.SqliteMemory.failed g.S.Store c.args.self.now
    c.ready.new.self _ first c.in_ok-ready.ensures.open
    c.in_ok-ready.ensures.stops {Z = ⊤} c.apply.new.conn c.give_up.new.self c.give_up.result
    c.in-Err.ensures.kept.quiet (λ clean mine. c.in-Err.ensures.kept.kept clean (at_rest mid mine))
    c.give_up.ensures.kept c.give_up.ensures.tally
    (c.give_up.ensures.cause c.in-Err.ensures.cause) in
    record {
      none = end.same;
      ours = end.ours;
      round = λ clean either t back. tt;
      quiet = end.quiet;
      tally = end.tally;
      cause = end.cause;
      rests = λ clean ours opened desk. still_leaves g.M.Memory.refused g.M.SqliteMemory.failed
          g.S.Store g.met.S.Store.settled
          c.args.self.now c.give_up.new.self _ _ (returns-in-Err-clause-stops g c ours) clean.0
          (end.ours clean ours opened);
      shut = λ clean closed. absurd (true≢false (sym closed ∙ first.tally.0));
    }
