use Rattle.std.proofs.Common.{◌≡◌, rules, Ok, Err}
use Rattle.hq_values.specs.Readers.{Fails}
use Rattle.hq_settings.specs.Settings.{relay_in}
use Rattle.hq_settings.specs.declared.trouble.Trouble.TheVariants.{Desk}
use Rattle.hq_settings.specs.SettingUp.{key_line}
use Rattle.hq_settings.proofs.Failing.{failed}
use Rattle.hq_settings.proofs.relay_words.relay_in_file.Goals as goal

pub returns-in_err-name : goal.returns-in_err-name
returns-in_err-name g c = (
  Err (Desk c.in_err-name.field-0.0),
  failed _ _ _ c.in_err-name.ensures,
  search rules,
)

pub returns-in_err-file : goal.returns-in_err-file
returns-in_err-file g c = (
  Ok c.in_ok-name.name,
  c.in_ok-name.ensures,
  (Err c.in_err-file.field-0.0, c.in_err-file.ensures, search rules),
)

pub returns-in_err-relay_with : goal.returns-in_err-relay_with
returns-in_err-relay_with g c =
    let told : c.from_residual-in_err-relay_with.result ≡ Err (Desk c.in_err-relay_with.field-0.0)
    = search rules in
    let fails : Fails c.in_err-relay_with.field-0.0
    (relay_in c.in_ok-name.name (key_line c.in_ok-file.file.items)) = search rules in (
      Ok c.in_ok-name.name,
      c.in_ok-name.ensures,
      (Ok c.in_ok-file.file.items, c.in_ok-file.ensures, rw told fails),
    )

pub returns : goal.returns
returns g c = (
  Ok c.in_ok-name.name,
  c.in_ok-name.ensures,
  (Ok c.in_ok-file.file.items, c.in_ok-file.ensures, search rules),
)
