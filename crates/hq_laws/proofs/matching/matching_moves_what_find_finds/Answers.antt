use Rattle.std.proofs.Common.{refl}
use Rattle.hq_rules.specs.Decision.{decide}
use Rattle.hq_rules.specs.Selections.{is_selected}
use Rattle.hq_rules.specs.declared.call.Move.TheVariants.{Hold, Release}
use Rattle.hq_laws.proofs.Moved.{moved, dropped}
use Rattle.hq_laws.proofs.Pages.{paged}
use Rattle.hq_laws.proofs.matching.matching_moves_what_find_finds.Goals as goal

pub returns-clause-find : goal.returns-clause-find
returns-clause-find c = paged

pub returns-clause-all : goal.returns-clause-all
returns-clause-all c = λ m. refl

pub returns-clause-hold : goal.returns-clause-hold
unfolding decide
returns-clause-hold c = λ host entry s at which h k. moved s h (is_selected which) k Hold

pub returns-clause-release : goal.returns-clause-release
unfolding decide
returns-clause-release c = λ host entry s at which h k. moved s h (is_selected which) k (Release at)

pub returns-clause-delete : goal.returns-clause-delete
unfolding decide
returns-clause-delete c = λ host entry s at which h k. dropped s h (is_selected which) k entry at
