use Rattle.std.specs.Prelude.{⊤}
use Rattle.hq_batch.specs.Runs.{ServesOver}
use Rattle.hq_batch.proofs.Ends.{run_ends_as}
use Rattle.hq_main.specs.Runs.{ServesBuiltin}
use Rattle.hq_main.proofs.Plain.{plain, serves}
use Rattle.hq_main.proofs.command.run_builtin.Goals as goal

pub returns : goal.returns
returns g c = run_ends_as (ServesOver ⊤ plain c.in_ok-settings.settings _ _ _ c.new-shelf.result)
    ServesBuiltin
    (serves _ _ _ c.in_ok-settings.settings c.in_ok-settings.ensures c.new-shelf.result
    c.new-shelf.ensures) _ _ (λ same. (same.1, same.2)) _ _ c.run_batch.result c.run_batch.ensures
