use Rattle.std.proofs.Common.{◌≡◌, ◌∙◌, sym, ap}
use Rattle.hq_values.specs.Addresses.{folded}
use Rattle.hq_kept.specs.Patterns.{is_pattern}
use Rattle.hq_kept.proofs.Folds.{folded_twice}
use Rattle.hq_kept.proofs.pattern.Pattern.parse.Goals as goal

pub invariant_of-result : goal.invariant_of-result
invariant_of-result g c =
    let is_folded : c.new-key.result ≡ folded c.args.text.now = c.new-key.ensures
    ∙ c.in_ok-folded.ensures.ok in
    let fits = ap (λ t. is_pattern c.args.class t) (c.new-key.ensures ∙ sym c.as_str.ensures.value)
    ∙ sym c.is_pattern.ensures ∙ c.if-not-is_pattern.false in
    (ap folded is_folded ∙ folded_twice c.args.text.now ∙ sym is_folded, fits)
