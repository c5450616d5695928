use Rattle.std.proofs.Common.{◌≡◌, ◌++◌, ◌-◌, length, drop}
use Rattle.hq_values.specs.Serials.{hex_text}
use Rattle.hq_values.proofs.serial.Serial.text.Given as goal

abbrev pub invariant-loop-i : goal.invariant-loop-i
invariant-loop-i l = record {
  written : hex_text (10 - l.i) l.rest
      ++ drop (10 - l.i) l.text ≡ hex_text 10 l.fn.self;
  long : length l.text ≡ 10;
}
