use Rattle.sqlite.specs.Held.{state}
use Rattle.hq_sql_open.proofs.Migrated.{two_keep, three_keep, lifts_all}
use Rattle.hq_sql_open.proofs.lifting.lift.Goals as goal

pub returns-in_err-count-clause-kept : goal.returns-in_err-count-clause-kept
returns-in_err-count-clause-kept g c has within =
    two_keep (state g.S.Store c.args.conn.now) (state g.S.Store c.make_tables.new.conn)
    (state g.S.Store c.fill_holds.new.conn) within
    (c.in_ok-make_tables.ensures.made has) (c.in_ok-make_tables.ensures.kept has within)
    c.in_err-count.ensures.quiet c.in_err-count.ensures.kept

pub returns-in_err-set_version-clause-kept : goal.returns-in_err-set_version-clause-kept
returns-in_err-set_version-clause-kept g c has within =
    let a = state g.S.Store c.args.conn.now in
    let b = state g.S.Store c.make_tables.new.conn in
    let m = state g.S.Store c.fill_holds.new.conn in
    let two = two_keep a b m within (c.in_ok-make_tables.ensures.made has)
    (c.in_ok-make_tables.ensures.kept has within) c.in_ok-count.ensures.quiet
    c.in_ok-count.ensures.kept in
    three_keep a b m (state g.S.Store c.set_version.new.conn) within
    (c.in_ok-make_tables.ensures.made has) two c.in_ok-count.ensures.quiet
    c.in_ok-count.ensures.goes c.in_err-set_version.ensures.quiet
    c.in_err-set_version.ensures.kept

pub returns-clause-made : goal.returns-clause-made
returns-clause-made g c first clean =
    lifts_all c.args.reason.now c.in_ok-count.count (state g.S.Store c.args.conn.now)
    (state g.S.Store c.make_tables.new.conn) (state g.S.Store c.fill_holds.new.conn)
    (state g.S.Store c.set_version.new.conn) first
    c.in_ok-count.ensures.quiet c.in_ok-set_version.ensures.quiet
    (c.in_ok-make_tables.ensures.made first.schema_is) c.in_ok-count.ensures.made
    c.in_ok-set_version.ensures.made clean

pub returns-clause-kept : goal.returns-clause-kept
returns-clause-kept g c has within =
    let a = state g.S.Store c.args.conn.now in
    let b = state g.S.Store c.make_tables.new.conn in
    let m = state g.S.Store c.fill_holds.new.conn in
    let two = two_keep a b m within (c.in_ok-make_tables.ensures.made has)
    (c.in_ok-make_tables.ensures.kept has within) c.in_ok-count.ensures.quiet
    c.in_ok-count.ensures.kept in
    three_keep a b m (state g.S.Store c.set_version.new.conn) within
    (c.in_ok-make_tables.ensures.made has) two c.in_ok-count.ensures.quiet
    c.in_ok-count.ensures.goes c.in_ok-set_version.ensures.quiet
    c.in_ok-set_version.ensures.kept
