use Rattle.std.proofs.Common.{◌≡◌, ◌∙◌, sym, ap, arith, get_or, Some}
use Rattle.hq_values.specs.Serials.{hex_value}
use Rattle.hq_values.proofs.Hex.{below_power, below_power_more, digit_of_value}
use Rattle.hq_values.proofs.QueueIds.{digit_read}
use Rattle.hq_values.proofs.serial.Serial.parse.Goals as goal

pub overflow_mul-number : goal.overflow_mul-number
overflow_mul-number c =
    let small = below_power c.loop-byte.number c.loop-byte.byte-index 9 c.loop-byte.invariant.small
    (omega arith) in
    omega arith

pub overflow_add-number : goal.overflow_add-number
overflow_add-number c =
    let small = below_power c.loop-byte.number c.loop-byte.byte-index 9 c.loop-byte.invariant.small
    (omega arith) in
    let digit = digit_of_value (get_or c.as_bytes-byte-items.result.now c.loop-byte.byte-index 0)
    c.in_ok-number.field-0 (sym c.hex_value.ensures ∙ c.in_ok-number.was) in
    omega (arith, digit.0)

pub loop-byte-preserved : goal.loop-byte-preserved
loop-byte-preserved c =
    let byte = get_or c.as_bytes-byte-items.result.now c.loop-byte.byte-index 0 in
    let value : hex_value byte ≡ Some c.in_ok-number.field-0 = sym c.hex_value.ensures
    ∙ c.in_ok-number.was in
    record {
      read = digit_read c.args.text.now c.loop-byte.byte-index c.loop-byte.number byte
          c.in_ok-number.field-0 (omega arith) c.loop-byte.invariant.read
          (ap (λ xs. get_or xs c.loop-byte.byte-index 0) c.as_bytes-byte-items.ensures.value) value;
      small = below_power_more c.loop-byte.byte-index c.loop-byte.number c.in_ok-number.field-0
          c.loop-byte.invariant.small (digit_of_value byte c.in_ok-number.field-0 value).0;
    }
