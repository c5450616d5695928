use Rattle.std.proofs.Common.{rules, ◌≡◌, None, sym, subst}
use Rattle.hq_rules.specs.declared.call.Call.TheVariants.{HoldAll, ReleaseAll}
use Rattle.hq_rules.specs.declared.call.Move.TheVariants.{Hold, Release}
use Rattle.hq_desk.specs.Moves.{IsMoveOfAll}
use Rattle.hq_desk.proofs.Moves.{hold_is_move, release_is_move}
use Rattle.hq_desk.proofs.moving.move_asked.Goals as goal

pub returns-in-HoldAll-clause-decided : goal.returns-in-HoldAll-clause-decided
returns-in-HoldAll-clause-decided c =
    let all : c.args.call.now ≡ HoldAll None = search rules in
    subst (λ call. IsMoveOfAll c.args.at call Hold) (sym all) (hold_is_move c.args.at)

pub returns-in-ReleaseAll-clause-decided : goal.returns-in-ReleaseAll-clause-decided
returns-in-ReleaseAll-clause-decided c =
    let all : c.args.call.now ≡ ReleaseAll None = search rules in
    subst (λ call. IsMoveOfAll c.args.at call (Release c.args.at)) (sym all)
    (release_is_move c.args.at)
