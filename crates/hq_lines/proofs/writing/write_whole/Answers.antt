use Rattle.std.proofs.Common.{take, rules, subst}
use Rattle.std.specs.Io.KnownBytes.{Appends}
use Rattle.std.proofs.KnownBytes.{Appends-kept}
use Rattle.std.proofs.lemmas.List.{take_rest}
use Rattle.hq_lines.proofs.Written.{part_more}
use Rattle.hq_lines.proofs.writing.write_whole.Goals as goal
use Rattle.hq_lines.proofs.writing.write_whole.Goals.{in-Ok, in-Err}

pub loop-preserved : goal.loop-preserved
loop-preserved g c =
    let bytes = c.args.bytes.now in
    let contents = g.W.Write.contents in
    let old = contents c.args.writer.now in
    let new = contents c.write.new.self in
    elim c.match-write.branch [
      | in-Ok w ↦
          let took = subst (λ l. Appends (contents c.loop.writer) new (take w.in-Ok.count l))
          (take_rest bytes c.loop.done) w.in-Ok.ensures.bytes in
          rw w.done-is (
            search rules,
            part_more old _ new c.loop.done w.in-Ok.count bytes c.loop.invariant.1 took,
          )
      | in-Err w ↦
          rw w.done-is (
            c.loop.invariant.0,
            Appends-kept old _ new _ c.loop.invariant.1 w.in-Err.ensures.bytes,
          )
    ]
