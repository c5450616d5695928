use Rattle.std.proofs.Common.{◌≡◌, rules, subst, Ok, Err}
use Rattle.hq_values.specs.Readers.{Fails}
use Rattle.hq_import.specs.Directories.{customers_in}
use Rattle.hq_settings.specs.declared.trouble.Trouble.TheVariants.{Desk}
use Rattle.hq_settings.proofs.Failing.{failed}
use Rattle.hq_settings.proofs.files.customers_of.Goals as goal

pub returns-in_err-file-clause-customers : goal.returns-in_err-file-clause-customers
returns-in_err-file-clause-customers g c = (
  Err c.in_err-file.field-0.0,
  c.in_err-file.ensures,
  search rules,
)

pub returns-in_err-directory_of-clause-customers : goal.returns-in_err-directory_of-clause-customers
returns-in_err-directory_of-clause-customers g c =
    let told : c.from_residual-in_err-directory_of.result ≡ Err
    (Desk c.in_err-directory_of.field-0.0) = search rules in
    let fails : Fails c.in_err-directory_of.field-0.0 (customers_in c.in_ok-file.file.items) =
    subst (λ bytes. Fails c.in_err-directory_of.field-0.0 (customers_in bytes))
    c.as_slice.ensures.value (failed _ _ _ c.in_err-directory_of.ensures.customers) in
    (Ok c.in_ok-file.file.items, c.in_ok-file.ensures, rw told fails)

pub returns-clause-customers : goal.returns-clause-customers
returns-clause-customers g c = (Ok c.in_ok-file.file.items, c.in_ok-file.ensures, search rules)
