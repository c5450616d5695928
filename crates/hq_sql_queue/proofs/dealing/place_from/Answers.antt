use Rattle.std.proofs.Common.{ap, arith}
use Rattle.hq_kept.specs.declared.message.Message.{Message}
use Rattle.hq_sql_queue.specs.Dealt.{serials_of}
use Rattle.hq_sql_queue.proofs.Dealt.{serial_at, passes_more, found_none}
use Rattle.hq_sql_queue.proofs.dealing.place_from.Goals as goal

pub loop-place-preserved : goal.loop-place-preserved
loop-place-preserved c =
    passes_more (serials_of c.args.page.now) c.args.from c.args.serial c.loop-place.place
    c.index-page-place.result.serial c.loop-place.invariant
    (serial_at c.args.page.now c.loop-place.place c.index-page-place.result
    c.loop-place-test.true c.index-page-place.is)
    (omega (
      arith,
      ap (λ (m : Message). m.serial) c.index-page-place.is,
      c.get.ensures.value,
      c.if-serial-get.false,
    ))

pub returns : goal.returns
returns c = found_none c.args.page.now c.args.from c.args.serial c.loop-place.place
    c.loop-place.invariant c.loop-place-test.false
