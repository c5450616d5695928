use Rattle.sqlite.specs.Held.{state}
use Rattle.hq_keyed.proofs.Left.{clean_before}
use Rattle.hq_sql_open.proofs.Migrated.{raises, raise_keeps}
use Rattle.hq_sql_open.proofs.lifting.raise.Goals as goal

pub returns-in_err-set_version-clause-kept : goal.returns-in_err-set_version-clause-kept
returns-in_err-set_version-clause-kept g c has within =
    raise_keeps (state g.S.Store c.args.conn.now) (state g.S.Store c.make_ends.new.conn)
    (state g.S.Store c.set_version.new.conn) within (c.in_ok-make_ends.ensures.made has)
    (c.in_ok-make_ends.ensures.kept has within) c.in_err-set_version.ensures.quiet
    c.in_err-set_version.ensures.kept

pub returns-clause-made : goal.returns-clause-made
returns-clause-made g c second clean =
    let a = state g.S.Store c.args.conn.now in
    let b = state g.S.Store c.make_ends.new.conn in
    let d = state g.S.Store c.set_version.new.conn in
    let m = c.in_ok-make_ends.ensures.made second.schema_is
    (clean_before b d c.in_ok-set_version.ensures.quiet clean) in
    raises a b d second m (λ version has it. c.in_ok-set_version.ensures.made version has it clean)

pub returns-clause-kept : goal.returns-clause-kept
returns-clause-kept g c has within =
    raise_keeps (state g.S.Store c.args.conn.now) (state g.S.Store c.make_ends.new.conn)
    (state g.S.Store c.set_version.new.conn) within (c.in_ok-make_ends.ensures.made has)
    (c.in_ok-make_ends.ensures.kept has within) c.in_ok-set_version.ensures.quiet
    c.in_ok-set_version.ensures.kept
