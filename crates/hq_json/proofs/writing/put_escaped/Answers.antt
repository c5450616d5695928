use Rattle.std.proofs.Common.{sym, ◌∙◌, arith}
use Rattle.hq_json.proofs.Escapes.{plain_more, escaped_more}
use Rattle.hq_json.proofs.writing.put_escaped.Goals as goal
use Rattle.hq_json.proofs.writing.put_escaped.Goals.{else-not-is_plain}
use Rattle.hq_json.proofs.writing.put_escaped.Goals.{then-not-is_plain+in_ok-extend+in_ok-put_byte}

pub loop-i-preserved : goal.loop-i-preserved
loop-i-preserved g c =
    let l = c.loop-i in
    elim c.if-not-is_plain.branch [
      | then-not-is_plain+in_ok-extend+in_ok-put_byte w ↦ record {
        within = omega arith;
        so_far = rw (w.from-is, w.body-is, w.in_ok-put_byte.ensures, w.in_ok-extend.ensures.items)
            (escaped_more c.args.text.now _ _ l.from l.i (omega arith) l.invariant.so_far);
      }
      | else-not-is_plain w ↦ record {
        within = omega arith;
        so_far = rw (w.from-is, w.body-is) (plain_more c.args.text.now _ _ l.from l.i
            l.invariant.within (omega arith) (sym c.is_plain.ensures ∙ w.if-not-is_plain.false)
            l.invariant.so_far);
      }
    ]
