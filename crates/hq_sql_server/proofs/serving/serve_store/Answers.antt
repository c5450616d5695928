use Rattle.std.proofs.Common.{Ok}
use Rattle.hq_sql_server.proofs.serving.serve_store.Goals as goal

pub returns : goal.returns
returns g c = (
  Ok c.in_ok-store.store,
  c.in_ok-store.ensures.fresh,
  (
    c.serve_over-ended.result.1,
    c.serve_over-ended.ensures,
    g.K.Stores.does_on _ _ _ _ _ c.in_ok-store.ensures.done c.leave.ensures,
  ),
)
