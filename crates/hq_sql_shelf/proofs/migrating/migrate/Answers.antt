use Rattle.std.proofs.Common.{◌∙◌, subst, Some}
use Rattle.sqlite.specs.Held.{state}
use Rattle.hq_sql_open.specs.Migration.{MigratesBy}
use Rattle.hq_sql_shelf.proofs.Migrated.{migrated, upgraded}
use Rattle.hq_sql_shelf.proofs.migrating.migrate.Goals as goal

pub returns-clause-lifts : goal.returns-clause-lifts
returns-clause-lifts g c clean settled first =
    let old = state g.S.Store c.args.conn.now in
    let new = state g.S.Store c.migration.new.conn in
    let told = subst (λ told. MigratesBy c.as_str.result.now told old new) c.in-Some.is
    (c.in-Ok.ensures.done clean settled) in
    migrated c.in-Some.count old new first
    (subst (λ reason. MigratesBy reason (Some c.in-Some.count) old new) (c.as_str.ensures
    ∙ c.in_ok-reason.ensures) told)

pub returns-clause-upgrades : goal.returns-clause-upgrades
returns-clause-upgrades g c clean settled second =
    let old = state g.S.Store c.args.conn.now in
    let new = state g.S.Store c.migration.new.conn in
    let told = subst (λ told. MigratesBy c.as_str.result.now told old new) c.in-Some.is
    (c.in-Ok.ensures.done clean settled) in
    upgraded c.in-Some.count old new second
    (subst (λ reason. MigratesBy reason (Some c.in-Some.count) old new) (c.as_str.ensures
    ∙ c.in_ok-reason.ensures) told)
