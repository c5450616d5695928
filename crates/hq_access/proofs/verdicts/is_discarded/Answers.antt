use Rattle.std.proofs.Common.{◌≡◌, ◌||◌, map, sym, ap, ◌∙◌, rules, tests}
use Rattle.std.specs.List.{list_any}
use Rattle.std.proofs.lemmas.Iterator.{YieldsList-from_slice}
use Rattle.std.proofs.lemmas.Iterator.Search.{any_from_yields_List}
use Rattle.hq_rules.specs.Verdicts.{discards, not_refused}
use Rattle.hq_access.proofs.Weighing.{Recipient, discards_kept}
use Rattle.hq_access.proofs.verdicts.is_discarded.Goals as goal

pub returns-else-discards : goal.returns-else-discards
returns-else-discards c =
    let any : c.any.result ≡ list_any (λ (r : Recipient). discards r.1) c.args.recipients.now =
    any_from_yields_List (λ (r : Recipient). discards r.1) _ _ c.any.result c.any.ensures.ran
    (YieldsList-from_slice c.args.recipients.now cc) (λ x b q k. search (rules, tests)) in
    any ∙ sym (discards_kept c.args.recipients.now) ∙ ap (λ b. b
    || list_any discards (map (λ (r : Recipient). r.1) (not_refused c.args.recipients.now)))
    (sym c.if-discards.false ∙ c.discards.ensures)
