use Rattle.std.proofs.Common.{◌∙◌, ap, refl, arith, replicate}
use Rattle.std.proofs.lemmas.Grind.{common_steps}
use Rattle.hq_values.specs.Serials.{hex_text}
use Rattle.hq_values.proofs.Hex.{hex_start, hex_step_at, hex_end}
use Rattle.hq_values.proofs.serial.Serial.text.Goals as goal

pub loop-i-init : goal.loop-i-init
loop-i-init c = record {
  written = hex_start c.self.inside.number (replicate 10 48) refl
      ∙ ap (λ n. hex_text 10 n) c.self.view_is;
  long = refl;
}

pub loop-i-preserved : goal.loop-i-preserved
loop-i-preserved c = record {
  written = hex_step_at c.loop-i.i c.loop-i.rest c.hex_digit.result c.loop-i.text (omega arith)
      (omega arith) c.hex_digit.ensures ∙ c.loop-i.invariant.written;
  long = grind (arith, common_steps);
}

pub returns : goal.returns
returns c = hex_end c.loop-i.i c.loop-i.rest c.loop-i.text _ (omega arith)
    c.loop-i.invariant.written
