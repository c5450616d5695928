use Rattle.std.proofs.Common.{◌≡◌, take, option_map}
use Rattle.hq_rules.specs.Verdicts.{found_in, redirect_of}
use Rattle.hq_access.proofs.verdicts.redirect_of.Given as goal

abbrev pub invariant-loop-recipient : goal.invariant-loop-recipient
invariant-loop-recipient l = option_map (λ x. x.now) l.last ≡ redirect_of
    (found_in (option_map (λ a. a.now) l.found) (take l.recipient-index l.recipients))
