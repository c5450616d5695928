use Rattle.std.proofs.Common.{◌-◌, length, None, option_map, sym, ap, arith}
use Rattle.hq_kept.specs.declared.end.End.{End}
use Rattle.hq_decisions.proofs.Last.{last_is}
use Rattle.hq_decisions.proofs.histories.last_number.Goals as goal

pub returns-in-Some : goal.returns-in-Some
returns-in-Some c =
    let es = c.args.ends.now in
    let some = c.in-Some.ensures.item.3.0 in
    sym (ap (option_map (λ (e : End). e.number)) (last_is (length es - 1) es c.in-Some.end.now None
    (omega arith) c.in-Some.ensures.item.1))
