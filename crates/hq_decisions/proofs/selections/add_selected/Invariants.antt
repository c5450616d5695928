use Rattle.std.proofs.Common.{◌≡◌, ◌++◌, filter, option_map}
use Rattle.hq_rules.specs.Selections.{is_selected}
use Rattle.hq_decisions.proofs.selections.add_selected.Given as goal

-- those of the messages so far are added
abbrev pub invariant-loop-message : goal.invariant-loop-message
invariant-loop-message g l = l.selected.items ≡ l.fn.selected.items
    ++ filter (is_selected (option_map (λ p. p.now) l.which)) l.yielded
