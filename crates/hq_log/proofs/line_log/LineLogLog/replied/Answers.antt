use Rattle.std.proofs.Common.{Bool, refl, sym, subst}
use Rattle.hq_log.specs.Entries.{answered_entry}
use Rattle.hq_log.specs.Files.{LineEnds, line_state}
use Rattle.hq_log.proofs.line_log.LineLogLog.replied.Goals as goal

pub returns : goal.returns
returns g c =
    let old = line_state c.args.self.now.file c.args.self.now.is_losing in
    let next = line_state c.note.new.self.file c.note.new.self.is_losing in (
      next,
      subst (λ (s : g.row.F.Denot × Bool). LineEnds g.F.LogFile.does old
          (answered_entry c.args.answered.now) s.0 s.1)
          (λ i. (sym c.note.ensures.file i, sym c.note.ensures.losing i))
          (subst (λ e. LineEnds g.F.LogFile.does old e c.append-is_lost.new.self.file
          c.append-is_lost.result) c.entry_of-entry.ensures.entry c.append-is_lost.ensures.lost),
      refl {a = next},
    )
