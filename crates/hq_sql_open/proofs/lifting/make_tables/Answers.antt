use Rattle.sqlite.specs.Held.{state}
use Rattle.hq_keyed.proofs.Left.{clean_before}
use Rattle.hq_sql_open.proofs.Migrated.{widens, both_keep}
use Rattle.hq_sql_open.proofs.lifting.make_tables.Goals as goal

pub returns-in_err-make_ends-clause-kept : goal.returns-in_err-make_ends-clause-kept
returns-in_err-make_ends-clause-kept g c has within =
    both_keep (state g.S.Store c.args.conn.now) (state g.S.Store c.make_holds.new.conn)
    (state g.S.Store c.make_ends.new.conn) within (c.in_ok-make_holds.ensures.made has)
    (c.in_ok-make_holds.ensures.kept has within) c.in_err-make_ends.ensures.quiet
    c.in_err-make_ends.ensures.kept

pub returns-clause-made : goal.returns-clause-made
returns-clause-made g c has clean =
    let a = state g.S.Store c.args.conn.now in
    let b = state g.S.Store c.make_holds.new.conn in
    let d = state g.S.Store c.make_ends.new.conn in
    let m = c.in_ok-make_holds.ensures.made has
    (clean_before b d c.in_ok-make_ends.ensures.quiet clean) in
    widens a b d m (λ second. c.in_ok-make_ends.ensures.made second clean)

pub returns-clause-kept : goal.returns-clause-kept
returns-clause-kept g c has within =
    both_keep (state g.S.Store c.args.conn.now) (state g.S.Store c.make_holds.new.conn)
    (state g.S.Store c.make_ends.new.conn) within (c.in_ok-make_holds.ensures.made has)
    (c.in_ok-make_holds.ensures.kept has within) c.in_ok-make_ends.ensures.quiet
    c.in_ok-make_ends.ensures.kept
