use Rattle.std.proofs.Common.{◌≡◌, inr, sym, subst}
use Rattle.std.specs.Prelude.{IfOk, OnOk}
use Rattle.hq_tables.specs.Shelves.{StopLeavesWhole}
use Rattle.hq_tables.specs.Tables.{Tables}
use Rattle.hq_rules.specs.Desks.{AnswersAre, IsRendered}
use Rattle.hq_rules.specs.declared.answer.Answer.{Answer}
use Rattle.hq_reads.specs.Memory.{with_memory}
use Rattle.hq_desk.proofs.Moves.{keeps_wider, one_reason, steps_one}
use Rattle.hq_desk.proofs.desk.DeskActs.act.Goals as goal

pub returns-in-Some-clause-answer : goal.returns-in-Some-clause-answer
returns-in-Some-clause-answer g c = λ clean ours sound.
    subst (λ (step : Answer × Tables). IfOk c.move_one.result
    (IsRendered (g.R.Render.text c.args.render.now) step.0))
    (sym (steps_one c.args.self.now.host c.args.entry.now
    (g.S.Shelf.sight.tables c.args.self.now.shelf) c.args.at c.args.call
    c.in-Some.asked.serial c.in-Some.asked.by c.in-Some.ensures.decided))
    (c.move_one.ensures.answer clean ours sound)

pub returns-in-Some-clause-tables : goal.returns-in-Some-clause-tables
returns-in-Some-clause-tables g c = λ clean ours sound.
    subst (λ (step : Answer × Tables). OnOk c.move_one.result
    (g.S.Shelf.sight.tables c.move_one.new.shelf ≡ step.1))
    (sym (steps_one c.args.self.now.host c.args.entry.now
    (g.S.Shelf.sight.tables c.args.self.now.shelf) c.args.at c.args.call
    c.in-Some.asked.serial c.in-Some.asked.by c.in-Some.ensures.decided))
    (c.move_one.ensures.tables clean ours sound)

pub returns-in-Some-clause-stops : goal.returns-in-Some-clause-stops
returns-in-Some-clause-stops g c = λ clean ours sound.
    subst (λ (step : Answer × Tables). StopLeavesWhole g.S.Shelf.sight c.args.self.now.shelf
    c.move_one.new.shelf step.1)
    (sym (steps_one c.args.self.now.host c.args.entry.now
    (g.S.Shelf.sight.tables c.args.self.now.shelf) c.args.at c.args.call
    c.in-Some.asked.serial c.in-Some.asked.by c.in-Some.ensures.decided))
    (c.move_one.ensures.stops clean ours sound)

pub returns-in-Some-clause-kept : goal.returns-in-Some-clause-kept
returns-in-Some-clause-kept g c =
    let takes = g.R.Render.takes c.args.render.now in
    let any = ((answer : Answer) → takes answer) → g.M.Memory.refused in
    let these = AnswersAre takes c.args.call → g.M.Memory.refused in
    let sight = g.S.Shelf.sight in
    let kept = keeps_wider (with_memory any sight) (with_memory these sight).may_answer _ _ _
    (λ fault may. one_reason any these sight.may_answer
    (λ why all. why (λ answer. all answer (c.in-Some.ensures.any answer))) fault (inr may))
    c.move_one.ensures.kept in
    record {
      none = kept.none;
      ours = kept.ours;
      round = kept.round;
      quiet = kept.quiet;
      tally = kept.tally;
      cause = kept.cause;
      rests = kept.rests;
      shut = kept.shut;
    }

pub returns-in-Some-move_asked-clause-kept : goal.returns-in-Some-move_asked-clause-kept
returns-in-Some-move_asked-clause-kept g c =
    let takes = g.R.Render.takes c.args.render.now in
    let any = ((answer : Answer) → takes answer) → g.M.Memory.refused in
    let these = AnswersAre takes c.args.call → g.M.Memory.refused in
    let sight = g.S.Shelf.sight in
    let kept = keeps_wider (with_memory any sight) (with_memory these sight).may_answer _ _ _
    (λ fault may. one_reason any these sight.may_answer
    (λ why all. why (λ answer. all answer (c.in-Some-move_asked.ensures.any answer))) fault
    (inr may)) c.move_all.ensures.kept in
    record {
      none = kept.none;
      ours = kept.ours;
      round = kept.round;
      quiet = kept.quiet;
      tally = kept.tally;
      cause = kept.cause;
      rests = kept.rests;
      shut = kept.shut;
    }
