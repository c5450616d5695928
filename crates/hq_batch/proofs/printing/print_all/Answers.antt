use Rattle.std.proofs.Common.{◌∙◌, Ok, Err}
use Rattle.hq_batch.proofs.Printed.{done, failed}
use Rattle.hq_batch.proofs.printing.print_all.Goals as goal

pub returns-in-Ok : goal.returns-in-Ok
returns-in-Ok g c =
    record {
      wrote = Ok tt;
      written = c.in-Ok.ensures.1;
      status_is = c.in-Ok.ensures.0
          ∙ done c.args.told.now;
    }

pub returns-in-Err : goal.returns-in-Err
returns-in-Err g c =
    record {
      wrote = Err c.in-Err.trouble;
      written = c.in-Err.ensures;
      status_is = c.tell.ensures
          ∙ failed c.args.told.now;
    }
