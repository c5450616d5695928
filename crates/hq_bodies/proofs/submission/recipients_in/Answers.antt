use Rattle.std.proofs.Common.{map, ap, ◌∙◌, rules}
use Rattle.std.proofs.lemmas.List.{length-map}
use Rattle.hq_rules.specs.Limits.{is_recipient_count}
use Rattle.hq_bodies.proofs.Submitted.{recipients_taken, recipients_refused}
use Rattle.hq_bodies.proofs.submission.recipients_in.Goals as goal

pub returns-then-not-contains : goal.returns-then-not-contains
returns-then-not-contains g c = recipients_refused _
    (map (λ text. text.now) c.in_ok-texts.texts.items)
    (ap is_recipient_count (length-map c.in_ok-texts.texts.items (λ text. text.now))
    ∙ search rules) c.in_ok-texts.ensures

pub returns : goal.returns
returns g c = recipients_taken _ _ _ c.in_ok-texts.ensures
