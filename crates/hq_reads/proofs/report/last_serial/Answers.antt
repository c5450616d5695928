use Rattle.std.proofs.Common.{◌-◌, length, sym, arith}
use Rattle.hq_reads.proofs.Paged.{last_at}
use Rattle.hq_reads.proofs.report.last_serial.Goals as goal

pub returns-in-Some : goal.returns-in-Some
returns-in-Some c =
    let ms = c.args.messages.now in
    let some = c.in-Some.ensures.item.3.0 in
    sym (last_at (length ms - 1) ms c.in-Some.message.now (omega arith) c.in-Some.ensures.item.1)
