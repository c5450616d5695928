use Rattle.std.proofs.Common.{rules, Ok, Err}
use Rattle.hq_settings.specs.declared.trouble.Trouble.TheVariants.{Desk}
use Rattle.hq_settings.proofs.Failing.{failed}
use Rattle.hq_settings.proofs.checking.name_alone.Goals as goal

pub returns-in_err-_name : goal.returns-in_err-_name
returns-in_err-_name g c = (
  Err (Desk c.in_err-_name.field-0.0),
  failed _ _ _ c.in_err-_name.ensures,
  search rules,
)

pub returns : goal.returns
returns g c = (Ok c.in_ok-_name._name, c.in_ok-_name.ensures, search rules)
