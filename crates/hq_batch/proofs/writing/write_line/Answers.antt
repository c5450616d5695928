use Rattle.std.proofs.Common.{[], ◌∷◌, subst}
use Rattle.std.specs.Io.KnownBytes.{Appends}
use Rattle.std.proofs.KnownBytes.{Appends-trans}
use Rattle.hq_lines.specs.Written.{AppendsPart}
use Rattle.hq_lines.proofs.Written.{part_first, part_behind, out_behind, out_cut}
use Rattle.hq_batch.specs.Batches.{three_digits}
use Rattle.hq_requests.specs.Bodies.{body_bytes}
use Rattle.hq_batch.proofs.writing.write_line.Goals as goal

pub returns-in_err-write_whole : goal.returns-in_err-write_whole
unfolding three_digits
returns-in_err-write_whole g c = out_cut _ c.from_residual.result _ _ _ c.from_residual.ensures.1
    (part_first _ _ _ (10 ∷ []) (part_first _ _ _ (body_bytes c.args.reply.now.body)
    (part_first _ _ _ (32 ∷ [])
    (subst (AppendsPart _ _) c.three_digits.ensures c.in_err-write_whole.ensures))))

pub returns-in_err-write_whole-2 : goal.returns-in_err-write_whole-2
unfolding three_digits
returns-in_err-write_whole-2 g c = out_cut _ c.from_residual-in_err-write_whole-2.result _ _ _
    c.from_residual-in_err-write_whole-2.ensures.1
    (part_first _ _ _ (10 ∷ []) (part_first _ _ _ (body_bytes c.args.reply.now.body)
    (part_behind _ _ _ _ _ (subst (Appends _ _) c.three_digits.ensures c.in_ok-write_whole.ensures)
    c.in_err-write_whole-2.ensures)))

pub returns-in_err-write_whole-3 : goal.returns-in_err-write_whole-3
unfolding three_digits
returns-in_err-write_whole-3 g c = out_cut _ c.from_residual-in_err-write_whole-3.result _ _ _
    c.from_residual-in_err-write_whole-3.ensures.1
    (part_first _ _ _ (10 ∷ []) (part_behind _ _ _ _ _ (Appends-trans _ _ _ _ _
    (subst (Appends _ _) c.three_digits.ensures c.in_ok-write_whole.ensures)
    c.in_ok-write_whole-2.ensures)
    (subst (AppendsPart _ _) c.as_bytes.ensures c.in_err-write_whole-3.ensures)))

pub returns : goal.returns
unfolding three_digits
returns g c = out_behind c.write_whole-4.result _ _ _ _ (10 ∷ []) (Appends-trans _ _ _ _ _
    (Appends-trans _ _ _ _ _
    (subst (Appends _ _) c.three_digits.ensures c.in_ok-write_whole.ensures)
    c.in_ok-write_whole-2.ensures)
    (subst (Appends _ _) c.as_bytes.ensures c.in_ok-write_whole-3.ensures))
    c.write_whole-4.ensures
