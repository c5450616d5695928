use Rattle.std.proofs.Common.{rules, Ok, Err}
use Rattle.hq_settings.specs.declared.trouble.Trouble.TheVariants.{Desk}
use Rattle.hq_settings.proofs.Failing.{failed}
use Rattle.hq_sql_admin.proofs.requests.sweep_request.Goals as goal

pub returns-in_err-host : goal.returns-in_err-host
returns-in_err-host g c = (
  Err (Desk c.in_err-host.field-0.0),
  failed _ _ _ c.in_err-host.ensures,
  search rules,
)

pub returns-in_err-entry : goal.returns-in_err-entry
returns-in_err-entry g c = (
  Ok c.in_ok-host.host,
  c.in_ok-host.ensures,
  (Err c.in_err-entry.field-0.0, c.in_err-entry.ensures, search rules),
)

pub returns : goal.returns
returns g c = (
  Ok c.in_ok-host.host,
  c.in_ok-host.ensures,
  (Ok c.in_ok-entry.entry, c.in_ok-entry.ensures, search rules),
)
