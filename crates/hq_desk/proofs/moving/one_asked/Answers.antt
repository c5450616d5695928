use Rattle.std.proofs.Common.{rules, ◌≡◌, sym, subst}
use Rattle.hq_rules.specs.declared.call.Call.TheVariants as call
use Rattle.hq_rules.specs.declared.call.Move.TheVariants.{Hold, Release}
use Rattle.hq_desk.specs.Moves.{IsMoveOfOne}
use Rattle.hq_desk.proofs.Moves.{hold_is_one, release_is_one}
use Rattle.hq_desk.proofs.moving.one_asked.Goals as goal

pub returns-in-Hold-clause-decided : goal.returns-in-Hold-clause-decided
returns-in-Hold-clause-decided c =
    let is : c.args.call.now ≡ call.Hold c.in-Hold.serial = search rules in
    subst (λ asked. IsMoveOfOne c.args.at asked c.in-Hold.serial Hold) (sym is)
    (hold_is_one c.args.at c.in-Hold.serial)

pub returns-in-Release-clause-decided : goal.returns-in-Release-clause-decided
returns-in-Release-clause-decided c =
    let is : c.args.call.now ≡ call.Release c.in-Release.serial = search rules in
    subst (λ asked. IsMoveOfOne c.args.at asked c.in-Release.serial (Release c.args.at)) (sym is)
    (release_is_one c.args.at c.in-Release.serial)
