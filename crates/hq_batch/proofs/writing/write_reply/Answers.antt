use Rattle.hq_lines.proofs.Written.{out_cut, out_flushed}
use Rattle.hq_batch.proofs.writing.write_reply.Goals as goal

pub returns-in_err-write_line : goal.returns-in_err-write_line
returns-in_err-write_line g c = out_cut _ c.from_residual.result _ _ _ c.from_residual.ensures.1
    c.in_err-write_line.ensures

pub returns : goal.returns
returns g c = out_flushed c.flush.result _ _ _ _ c.in_ok-write_line.ensures c.flush.ensures.bytes
