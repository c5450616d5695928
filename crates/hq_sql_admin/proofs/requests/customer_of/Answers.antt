use Rattle.std.proofs.Common.{◌≡◌, rules, Ok, Err}
use Rattle.hq_values.specs.Readers.{Fails}
use Rattle.hq_admin.specs.Customers.{entry_named}
use Rattle.hq_settings.specs.declared.trouble.Trouble.TheVariants.{Desk}
use Rattle.hq_sql_admin.proofs.requests.customer_of.Goals as goal

pub returns-in_err-file : goal.returns-in_err-file
returns-in_err-file g c = (Err c.in_err-file.field-0.0, c.in_err-file.ensures, search rules)

pub returns-in_err-customer_in : goal.returns-in_err-customer_in
returns-in_err-customer_in g c =
    let told : c.from_residual-in_err-customer_in.result ≡ Err (Desk c.in_err-customer_in.field-0.0)
    = search rules in
    let fails : Fails c.in_err-customer_in.field-0.0
    (entry_named c.in_ok-file.file.items c.args.name.now) = search rules in
    (Ok c.in_ok-file.file.items, c.in_ok-file.ensures, rw told fails)

pub returns : goal.returns
returns g c = (Ok c.in_ok-file.file.items, c.in_ok-file.ensures, search rules)
