use Rattle.std.proofs.Common.{◌≡◌, take}
use Rattle.hq_rules.specs.Verdicts.{refused_in}
use Rattle.hq_access.proofs.verdicts.refused_in.Given as goal

abbrev pub invariant-loop-recipient : goal.invariant-loop-recipient
invariant-loop-recipient g l = l.refused.items ≡ refused_in (take l.recipient-index l.recipients)
