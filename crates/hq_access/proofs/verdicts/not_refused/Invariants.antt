use Rattle.std.proofs.Common.{◌≡◌, take, map}
use Rattle.hq_rules.specs.Verdicts.{not_refused}
use Rattle.hq_access.proofs.verdicts.not_refused.Given as goal

abbrev pub invariant-loop-recipient : goal.invariant-loop-recipient
invariant-loop-recipient g l = l.kept.items ≡ map (λ r. r.0)
    (not_refused (take l.recipient-index l.recipients))
