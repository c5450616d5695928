use Rattle.std.proofs.Common.{◌≡◌, Err, refl}
use Rattle.std.proofs.lemmas.Result.{err_from_is_err_and}
use Rattle.hq_wire.specs.Exchanges.{with_refusals}
use Rattle.hq_desk.specs.Desks.{on}
use Rattle.hq_lines.proofs.Told.{ends_as}
use Rattle.hq_batch.specs.Batches.{Replied}
use Rattle.hq_batch.specs.Runs.{ServesOver}
use Rattle.hq_batch.proofs.running.run_batch.Goals as goal

pub returns-in_err-batch : goal.returns-in_err-batch
returns-in_err-batch g c =
    let told = err_from_is_err_and c.from_residual.result c.from_residual.ensures.1 in
    let sight = with_refusals g.M.Memory.refused (on g.S.Shelf.sight) in
    let d = c.args.settings.directory in
    let old = c.new-desk.result in
    let new = c.batch.new.desk in
    let log_old = c.args.log.now in
    let log_new = c.batch.new.log in
    let less : g.M.Memory.refused × (c.batch.new.reader ≡ c.args.input.now)
    × (c.batch.new.writer ≡ c.args.output.now) × (log_new ≡ log_old) × (new ≡ old)
    → g.M.Memory.refused × (c.batch.new.reader ≡ c.args.input.now)
    × (c.batch.new.writer ≡ c.args.output.now) × (log_new ≡ log_old) =
    λ same. (same.0, same.1, same.2, same.3) in
    rw (told.1, told.2) (
      c.in_err-batch.field-0.0,
      refl,
      ends_as (λ asked lines. Replied sight d g.L.Log.tells log_old log_new old asked lines new)
          (ServesOver g.M.Memory.refused g.S.Shelf.sight c.args.settings g.L.Log.tells log_old
          log_new c.args.shelf)
          (λ asked lines p. record {
            old = old;
            host_is = c.new-desk.ensures.host;
            shelf_is = c.new-desk.ensures.shelf;
            new = new;
            replied = p;
          })
          less _ _ (Err c.in_err-batch.field-0.0) c.in_err-batch.ensures,
    )
