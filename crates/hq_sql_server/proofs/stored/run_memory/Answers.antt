use Rattle.std.specs.Prelude.{⊤}
use Rattle.std.proofs.Common.{inl}
use Rattle.hq_batch.specs.Runs.{ServesOver}
use Rattle.hq_batch.proofs.Ends.{run_ends_as}
use Rattle.hq_sql_server.specs.Stored.{memory, ServesFromEmpty}
use Rattle.hq_sql_server.proofs.Memory.{serves}
use Rattle.hq_sql_server.proofs.stored.run_memory.Goals as goal

pub returns : goal.returns
returns g c =
    let shelf = c.in_ok-shelf.shelf in
    let tells = g.L.Log.tells in
    let old = c.args.log.now in
    let new = c.run_batch.new.log in
    inl (run_ends_as (ServesOver ⊤ memory c.args.settings tells old new shelf)
    (ServesFromEmpty tells old new c.args.settings)
    (serves tells old new c.args.settings shelf c.in_ok-shelf.ensures.ours
    c.in_ok-shelf.ensures.empty) _ _
    (λ same. ((same.1, same.2), same.3)) _ _ c.run_batch.result c.run_batch.ensures)
