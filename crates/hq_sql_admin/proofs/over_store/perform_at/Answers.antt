use Rattle.std.proofs.Common.{◌≡◌, Ok, rules}
use Rattle.hq_sql_admin.specs.Calls.{trouble_told}
use Rattle.hq_sql_admin.proofs.over_store.perform_at.Goals as goal

pub returns-in_err-done : goal.returns-in_err-done
returns-in_err-done g c =
    let done = c.perform-store.result.1 in
    let told : c.from_residual-in_err-done.result ≡ trouble_told done = search rules in (
      Ok c.in_ok-store.store,
      c.in_ok-store.ensures.fresh,
      (
        c.perform-store.result.0,
        (done, c.perform-store.ensures, told),
        g.K.Stores.does_on _ _ _ _ _ c.in_ok-store.ensures.done c.leave.ensures,
      ),
    )

pub returns : goal.returns
returns g c =
    let done = c.perform-store.result.1 in
    let told : Ok c.in_ok-done.field-0 ≡ trouble_told done = search rules in (
      Ok c.in_ok-store.store,
      c.in_ok-store.ensures.fresh,
      (
        c.perform-store.result.0,
        (done, c.perform-store.ensures, told),
        g.K.Stores.does_on _ _ _ _ _ c.in_ok-store.ensures.done c.leave.ensures,
      ),
    )
