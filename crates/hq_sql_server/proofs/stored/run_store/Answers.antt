use Rattle.std.specs.Prelude.{⊤}
use Rattle.std.proofs.Common.{Ok}
use Rattle.hq_batch.specs.Runs.{ServesInRounds}
use Rattle.hq_batch.proofs.Ends.{rounds_run_end_as}
use Rattle.hq_sql_server.proofs.stored.run_store.Goals as goal

pub returns : goal.returns
returns g c =
    let left = c.run_batch_in_rounds-ended.result.1 in
    let store = c.in_ok-store.store in
    let serves = ServesInRounds ⊤ g.K.Store.Shelf.sight c.args.settings g.L.Log.tells
    c.args.log.now c.run_batch_in_rounds-ended.new.log store left in (
      Ok store,
      c.in_ok-store.ensures.fresh,
      (
        left,
        rounds_run_end_as serves serves (λ asked lines served. served) _ _
            (λ same. (((same.1, same.2), same.3), same.4)) _ _ c.run_batch_in_rounds-ended.result.0
            c.run_batch_in_rounds-ended.ensures,
        g.K.Stores.does_on _ _ _ _ _ c.in_ok-store.ensures.done c.leave.ensures,
      ),
    )
