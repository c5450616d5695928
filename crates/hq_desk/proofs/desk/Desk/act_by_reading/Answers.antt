use Rattle.std.proofs.Common.{Err, sym, subst, ap, ◌∙◌}
use Rattle.std.specs.Prelude.{⊤}
use Rattle.std.proofs.lemmas.Result.{err_from_is_err_and}
use Rattle.hq_tables.specs.Sound.{Sound}
use Rattle.hq_tables.specs.Tables.{write_all}
use Rattle.hq_rules.specs.Desks.{AnswersAre}
use Rattle.hq_reads.proofs.Reading.{changes_on, made_on, no_memory_on}
use Rattle.hq_moves.proofs.Moving.{left_on}
use Rattle.hq_soundness.proofs.Soundness.{shared_sound}
use Rattle.hq_desk.proofs.Moves.{drops_still}
use Rattle.hq_desk.proofs.desk.Desk.act_by_reading.Goals as goal

pub returns-clause-tables : goal.returns-clause-tables
returns-clause-tables g c = λ clean ours sound.
    let before = c.in_ok-apply_decision.ensures.kept.quiet clean in
    let name = c.args.entry.now.name in
    let sight = g.S.Shelf.sight in
    let kept = c.in_ok-decision.ensures.kept in
    let same = kept.same before ours kept.tally.1 in
    let decided = c.in_ok-decision.ensures.found before ours sound in
    let drops = drops_still c.args.self.now.host c.args.entry.now
    (sight.tables c.args.self.now.shelf) (sight.tables c.decide.new.shelf) c.args.at c.args.call
    c.deletes_all-all.result c.in_ok-decision.decision c.deletes_all-all.ensures decided same in
    c.in_ok-apply_decision.ensures.made clean (kept.ours before ours kept.tally.1)
    (subst Sound (sym same) sound) drops ∙ (λ i. write_all name ((decided i).changes) (same i))

pub returns-clause-sound : goal.returns-clause-sound
returns-clause-sound g c = λ clean ours open_ sound.
    let before = c.in_ok-apply_decision.ensures.kept.quiet clean in
    let name = c.args.entry.now.name in
    let sight = g.S.Shelf.sight in
    let t = sight.tables c.args.self.now.shelf in
    let kept = c.in_ok-decision.ensures.kept in
    let same = kept.same before ours kept.tally.1 in
    let decided = c.in_ok-decision.ensures.found before ours sound in
    let drops = drops_still c.args.self.now.host c.args.entry.now
    (sight.tables c.args.self.now.shelf) (sight.tables c.decide.new.shelf) c.args.at c.args.call
    c.deletes_all-all.result c.in_ok-decision.decision c.deletes_all-all.ensures decided same in
    let made = c.in_ok-apply_decision.ensures.made clean (kept.ours before ours kept.tally.1)
    (subst Sound (sym same) sound) drops in
    subst Sound (sym (made ∙ (λ i. write_all name ((decided i).changes) (same i))))
    (shared_sound c.args.self.now.host c.args.entry.now t c.args.at c.args.call sound)

pub returns-in_err-apply_decision-clause-kept : goal.returns-in_err-apply_decision-clause-kept
returns-in_err-apply_decision-clause-kept g c =
    let fault =
    err_from_is_err_and c.from_residual-in_err-apply_decision.result
    c.from_residual-in_err-apply_decision.ensures.1 in
    let both = changes_on _ (AnswersAre (g.R.Render.takes c.args.render.now) c.args.call
    → g.M.Memory.refused) g.S.Shelf.sight _ _ _ _ c.in_err-apply_decision.field-0.0
    c.from_residual-in_err-apply_decision.result (fault.1 ∙ ap Err fault.2)
    c.in_ok-decision.ensures.kept c.in_err-apply_decision.ensures.kept in
    record {
      none = both.none;
      ours = both.ours;
      round = both.round;
      quiet = both.quiet;
      tally = both.tally;
      cause = both.cause;
      rests = both.rests;
      shut = both.shut;
    }

pub returns-in_err-bytes-clause-kept : goal.returns-in_err-bytes-clause-kept
returns-in_err-bytes-clause-kept g c =
    let fault =
    err_from_is_err_and c.from_residual-in_err-bytes.result
    c.from_residual-in_err-bytes.ensures.1 in
    let kept = no_memory_on _ (AnswersAre (g.R.Render.takes c.args.render.now) c.args.call
    → g.M.Memory.refused) g.S.Shelf.sight _ _ _ c.from_residual-in_err-bytes.result
    (λ all. c.in_err-bytes.ensures.cause (all _ c.in_ok-decision.ensures.kind)) (fault.1
    ∙ ap Err fault.2) c.in_ok-decision.ensures.kept in
    record {
      none = kept.none;
      ours = kept.ours;
      round = kept.round;
      quiet = kept.quiet;
      tally = kept.tally;
      cause = kept.cause;
      rests = kept.rests;
      shut = kept.shut;
    }

pub returns-in_err-apply_decision-clause-stops : goal.returns-in_err-apply_decision-clause-stops
returns-in_err-apply_decision-clause-stops g c = λ clean ours sound.
    let before = c.in_err-apply_decision.ensures.kept.quiet clean in
    let name = c.args.entry.now.name in
    let sight = g.S.Shelf.sight in
    let kept = c.in_ok-decision.ensures.kept in
    let same = kept.same before ours kept.tally.1 in
    let decided = c.in_ok-decision.ensures.found before ours sound in
    let drops = drops_still c.args.self.now.host c.args.entry.now
    (sight.tables c.args.self.now.shelf) (sight.tables c.decide.new.shelf) c.args.at c.args.call
    c.deletes_all-all.result c.in_ok-decision.decision c.deletes_all-all.ensures decided same in
    left_on g.M.Memory.refused sight _ _ _ _ _ _ kept before ours
    (λ i. write_all name ((decided i).changes) (same i))
    (c.in_err-apply_decision.ensures.stops clean (kept.ours before ours kept.tally.1)
    (subst Sound (sym same) sound) drops)

pub returns-clause-stops : goal.returns-clause-stops
returns-clause-stops g c = λ clean ours sound.
    let before = c.in_ok-apply_decision.ensures.kept.quiet clean in
    let name = c.args.entry.now.name in
    let sight = g.S.Shelf.sight in
    let kept = c.in_ok-decision.ensures.kept in
    let same = kept.same before ours kept.tally.1 in
    let decided = c.in_ok-decision.ensures.found before ours sound in
    let drops = drops_still c.args.self.now.host c.args.entry.now
    (sight.tables c.args.self.now.shelf) (sight.tables c.decide.new.shelf) c.args.at c.args.call
    c.deletes_all-all.result c.in_ok-decision.decision c.deletes_all-all.ensures decided same in
    left_on g.M.Memory.refused sight _ _ _ _ _ _ kept before ours
    (λ i. write_all name ((decided i).changes) (same i))
    (c.in_ok-apply_decision.ensures.stops clean (kept.ours before ours kept.tally.1)
    (subst Sound (sym same) sound) drops)

pub returns-clause-kept : goal.returns-clause-kept
returns-clause-kept g c =
    let both = made_on {Z = ⊤} _ (AnswersAre (g.R.Render.takes c.args.render.now) c.args.call
    → g.M.Memory.refused) g.S.Shelf.sight _ _ _ _ _ tt c.in_ok-decision.ensures.kept
    c.in_ok-apply_decision.ensures.kept in
    record {
      none = both.none;
      ours = both.ours;
      round = both.round;
      quiet = both.quiet;
      tally = both.tally;
      cause = both.cause;
      rests = both.rests;
      shut = both.shut;
    }
