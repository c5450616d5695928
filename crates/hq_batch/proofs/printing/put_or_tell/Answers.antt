use Rattle.hq_batch.proofs.Printed.{begun}
use Rattle.hq_batch.proofs.printing.put_or_tell.Goals as goal

pub returns-clause-begun : goal.returns-clause-begun
returns-clause-begun g c = begun c.args.text.now _ _ c.put-done.result c.put-done.ensures
