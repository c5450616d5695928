use Rattle.std.proofs.Common.{rules, Ok, Err}
use Rattle.hq_settings.specs.declared.trouble.Trouble.TheVariants.{Desk}
use Rattle.hq_settings.proofs.Failing.{failed}
use Rattle.hq_sql_admin.proofs.rounds.round_of.Goals as goal

pub returns-in_err-host : goal.returns-in_err-host
returns-in_err-host g c = (
  Err (Desk c.in_err-host.field-0.0),
  failed _ _ _ c.in_err-host.ensures,
  search rules,
)

pub returns-in_err-customers : goal.returns-in_err-customers
returns-in_err-customers g c = (
  Ok c.in_ok-host.host,
  c.in_ok-host.ensures,
  (Err c.in_err-customers.field-0.0, c.in_err-customers.ensures.customers, search rules),
)

pub returns : goal.returns
returns g c = (
  Ok c.in_ok-host.host,
  c.in_ok-host.ensures,
  (Ok c.in_ok-customers.customers.items, c.in_ok-customers.ensures.customers, search rules),
)
