use Rattle.hq_lines.proofs.Written.{out_flushed}
use Rattle.hq_batch.proofs.printing.write_out.Goals as goal

pub returns : goal.returns
returns g c = out_flushed c.flush.result _ _ _ _ c.in_ok-write_whole.ensures c.flush.ensures.bytes
