use Rattle.std.proofs.Common.{◌≡◌, ◌^◌, ◌<◌, drop}
use Rattle.hq_values.specs.Serials.{hex_number}
use Rattle.hq_values.proofs.serial.Serial.parse.Given as goal

abbrev pub invariant-loop-byte : goal.invariant-loop-byte
invariant-loop-byte l = record {
  read : hex_number 0 l.text ≡ hex_number l.number
      (drop l.byte-index l.text);
  small : l.number < 16 ^ l.byte-index;
}
