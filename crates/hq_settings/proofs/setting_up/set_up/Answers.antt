use Rattle.std.proofs.Common.{◌≡◌, rules, Ok, Err, option_map, subst}
use Rattle.hq_values.specs.Readers.{Fails}
use Rattle.hq_settings.specs.Seen.{relay_seen}
use Rattle.hq_settings.specs.Settings.{settings_with}
use Rattle.hq_settings.specs.Steps.{HasKeys}
use Rattle.hq_settings.specs.declared.trouble.Trouble.TheVariants.{Desk}
use Rattle.hq_settings.proofs.setting_up.set_up.Goals as goal

pub returns-in_err-customers : goal.returns-in_err-customers
returns-in_err-customers g c = (
  Ok (relay_seen c.in_ok-relay.relay),
  c.in_ok-relay.ensures,
  (Err c.in_err-customers.field-0.0, c.in_err-customers.ensures.customers, search rules),
)

pub returns-in_err-named : goal.returns-in_err-named
returns-in_err-named g c =
    let reads = g.F.Files.reads c.args.rt.now in
    let keys = subst (λ cs. HasKeys reads cs (option_map (λ k. k.now) c.args.keys)
    (Err c.in_err-named.field-0.0)) c.as_slice.ensures.value c.in_err-named.ensures.keys in (
      Ok (relay_seen c.in_ok-relay.relay),
      c.in_ok-relay.ensures,
      (
        Ok c.in_ok-customers.customers.items,
        c.in_ok-customers.ensures.customers,
        (Err c.in_err-named.field-0.0, keys, search rules),
      ),
    )

pub returns-in_err-with_keys : goal.returns-in_err-with_keys
returns-in_err-with_keys g c =
    let reads = g.F.Files.reads c.args.rt.now in
    let keys = subst (λ cs. HasKeys reads cs (option_map (λ k. k.now) c.args.keys)
    (Ok c.in_ok-named.named.items)) c.as_slice.ensures.value c.in_ok-named.ensures.keys in
    let told : c.from_residual-in_err-with_keys.result ≡ Err (Desk c.in_err-with_keys.field-0.0) =
    search rules in
    let fails : Fails c.in_err-with_keys.field-0.0 (settings_with (relay_seen c.in_ok-relay.relay)
    c.in_ok-customers.customers.items c.in_ok-named.named.items) = c.in_err-with_keys.ensures in (
      Ok (relay_seen c.in_ok-relay.relay),
      c.in_ok-relay.ensures,
      (
        Ok c.in_ok-customers.customers.items,
        c.in_ok-customers.ensures.customers,
        (Ok c.in_ok-named.named.items, keys, rw told fails),
      ),
    )

pub returns : goal.returns
returns g c =
    let reads = g.F.Files.reads c.args.rt.now in
    let keys = subst (λ cs. HasKeys reads cs (option_map (λ k. k.now) c.args.keys)
    (Ok c.in_ok-named.named.items)) c.as_slice.ensures.value c.in_ok-named.ensures.keys in (
      Ok (relay_seen c.in_ok-relay.relay),
      c.in_ok-relay.ensures,
      (
        Ok c.in_ok-customers.customers.items,
        c.in_ok-customers.ensures.customers,
        (Ok c.in_ok-named.named.items, keys, search rules),
      ),
    )
