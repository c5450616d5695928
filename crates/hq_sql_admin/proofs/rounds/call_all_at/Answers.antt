use Rattle.std.proofs.Common.{Ok}
use Rattle.hq_sql_admin.proofs.rounds.call_all_at.Goals as goal

pub returns : goal.returns
returns g c = (
  Ok c.in_ok-store.store,
  c.in_ok-store.ensures.fresh,
  (
    c.call_all-done.result.1,
    c.call_all-done.ensures,
    g.K.Stores.does_on _ _ _ _ _ c.in_ok-store.ensures.done c.leave.ensures,
  ),
)
