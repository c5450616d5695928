use Rattle.std.proofs.Common.{◌≡◌, ◌<◌, ◌^◌, drop}
use Rattle.hq_values.specs.Decimals.{number_from}
use Rattle.hq_values.proofs.decimal.read_digits.Given as goal

-- the digits that are left go on from the number
abbrev pub invariant-loop-byte : goal.invariant-loop-byte
invariant-loop-byte l = record {
  left : number_from l.number (drop l.byte-index l.digits) ≡ number_from 0 l.digits;
  small : l.number < 10 ^ l.byte-index;
}
