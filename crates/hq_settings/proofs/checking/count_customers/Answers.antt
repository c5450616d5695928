use Rattle.std.proofs.Common.{◌≡◌, rules, Ok, Err, option_map, subst}
use Rattle.hq_values.specs.Readers.{Fails}
use Rattle.hq_settings.specs.Checked.{count_of}
use Rattle.hq_settings.specs.Seen.{relay_seen}
use Rattle.hq_settings.specs.Steps.{HasKeys}
use Rattle.hq_settings.specs.declared.trouble.Trouble.TheVariants.{Desk}
use Rattle.hq_settings.proofs.checking.count_customers.Goals as goal

pub returns-in_err-customers : goal.returns-in_err-customers
returns-in_err-customers g c file read = (
  Err (Desk c.in_err-customers.field-0.0),
  c.in_err-customers.ensures.customers file read,
  search rules,
)

pub returns-in_err-named : goal.returns-in_err-named
returns-in_err-named g c file read =
    let reads = g.F.Files.reads c.args.rt.now in
    let keys = subst (λ cs. HasKeys reads cs (option_map (λ k. k.now) c.args.keys)
    (Err c.in_err-named.field-0.0)) c.as_slice.ensures.value c.in_err-named.ensures.keys in (
      Ok c.in_ok-customers.customers.items,
      c.in_ok-customers.ensures.customers file read,
      (Err c.in_err-named.field-0.0, keys, search rules),
    )

pub returns-in_err-count_of : goal.returns-in_err-count_of
returns-in_err-count_of g c file read =
    let reads = g.F.Files.reads c.args.rt.now in
    let keys = subst (λ cs. HasKeys reads cs (option_map (λ k. k.now) c.args.keys)
    (Ok c.in_ok-named.named.items)) c.as_slice.ensures.value c.in_ok-named.ensures.keys in
    let told : c.from_residual-in_err-count_of.result ≡ Err (Desk c.in_err-count_of.field-0.0) =
    search rules in
    let fails : Fails c.in_err-count_of.field-0.0 (count_of (option_map relay_seen c.args.relay)
    c.in_ok-customers.customers.items c.in_ok-named.named.items) = c.in_err-count_of.ensures in (
      Ok c.in_ok-customers.customers.items,
      c.in_ok-customers.ensures.customers file read,
      (Ok c.in_ok-named.named.items, keys, rw told fails),
    )

pub returns : goal.returns
returns g c file read =
    let reads = g.F.Files.reads c.args.rt.now in
    let keys = subst (λ cs. HasKeys reads cs (option_map (λ k. k.now) c.args.keys)
    (Ok c.in_ok-named.named.items)) c.as_slice.ensures.value c.in_ok-named.ensures.keys in (
      Ok c.in_ok-customers.customers.items,
      c.in_ok-customers.ensures.customers file read,
      (Ok c.in_ok-named.named.items, keys, search rules),
    )
