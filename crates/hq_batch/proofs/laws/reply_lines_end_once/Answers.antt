use Rattle.hq_rules.specs.Desks.{or_memory}
use Rattle.std.proofs.Common.{◌≡◌, ◌+◌, ◌/◌, ◌%◌, ◌∷◌, ◌++◌, ℕ, true, refl, arith}
use Rattle.std.specs.Cmp.Derive.{both_true}
use Rattle.hq_json.specs.OneLine.{is_one_line}
use Rattle.hq_json.proofs.OneLine.{above, both_one_line}
use Rattle.hq_wire.proofs.OneLine.{reply_one_line}
use Rattle.hq_batch.specs.Batches.{three_digits}
use Rattle.hq_batch.proofs.laws.reply_lines_end_once.Goals as goal

digits_one_line : (n : ℕ) → is_one_line (three_digits n) ≡ true
unfolding three_digits
digits_one_line n = both_true (above (48 + n / 100 % 10) (omega arith))
    (both_true (above (48 + n / 10 % 10) (omega arith))
    (both_true (above (48 + n % 10) (omega arith)) refl))

pub returns : goal.returns
returns g c = λ host d a r t t' names replied.
    let body : is_one_line r.body ≡ true =
    reply_one_line (or_memory g.M.Memory.refused g.D.Acts.sight.store).may_answer host d t t' a.at
    names a.called r replied in (
      three_digits r.status ++ 32 ∷ r.body,
      refl,
      both_one_line (three_digits r.status) (32 ∷ r.body) (digits_one_line r.status) body,
    )
