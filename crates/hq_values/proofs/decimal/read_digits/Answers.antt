use Rattle.std.proofs.Common.{◌<◌, arith}
use Rattle.hq_values.proofs.Digits.{below_all}
use Rattle.hq_values.proofs.decimal.read_digits.Goals as goal

pub overflow_mul-number : goal.overflow_mul-number
overflow_mul-number c =
    let few : c.loop-byte.byte-index < 13 = grind (arith, c.requires, c.loop-byte-test.true) in
    let small = below_all c.loop-byte.number c.loop-byte.byte-index c.loop-byte.invariant.small few
    in
    grind (arith, small)

pub overflow_add-number : goal.overflow_add-number
overflow_add-number c =
    let few : c.loop-byte.byte-index < 13 = grind (arith, c.requires, c.loop-byte-test.true) in
    let small = below_all c.loop-byte.number c.loop-byte.byte-index c.loop-byte.invariant.small few
    in
    let digit : c.from.result < 256 = grind (arith, c.from.ensures) in
    grind (arith, small, digit)
