use Rattle.std.proofs.Common.{◌≡◌, ◌+◌, ◌∙◌, ◌∷◌, ◌++◌, [], map, take, drop, sym, ap}
use Rattle.std.proofs.Common.{subst, take-append-drop}
use Rattle.std.specs.List.{concat}
use Rattle.std.specs.Io.KnownBytes.{Appends}
use Rattle.std.proofs.lemmas.List.{take_all, take_more}
use Rattle.hq_requests.specs.declared.reply.Reply.{Reply}
use Rattle.hq_wire.specs.Replies.{seen}
use Rattle.hq_lines.specs.Written.{AppendsPart}
use Rattle.hq_lines.proofs.Written.{out_cut, out_flushed}
use Rattle.hq_batch.specs.Batches.{reply_line}
use Rattle.hq_batch.proofs.Lined.{broken_at, written_more}
use Rattle.hq_batch.proofs.rounds.write_replies.Goals as goal

pub loop-reply-preserved : goal.loop-reply-preserved
loop-reply-preserved g c =
    let i = c.loop-reply.reply-index in
    let all = c.args.replies.now in
    let item = c.reply-item.result in
    let text = (λ (r : Reply). reply_line (seen r)) in
    let more : take (i + 1) all ≡ take i all ++ item ∷ [] =
    take_more all i item c.loop-reply-test.true ∙ ap (λ x. take i all ++ x ∷ [])
    (sym c.reply-item.is) in
    subst (λ l. Appends (g.W.Write.contents c.args.writer.now)
    (g.W.Write.contents c.write_line.new.writer) (concat (map text l))) (sym more)
    (written_more text (take i all) item _ _ _ c.loop-reply.invariant
    c.in_ok-write_line.ensures)

pub returns-in_err-write_line : goal.returns-in_err-write_line
returns-in_err-write_line g c =
    let i = c.loop-reply.reply-index in
    let all = c.args.replies.now in
    let item = c.reply-item.result in
    let text = (λ (r : Reply). reply_line (seen r)) in
    let more : take (i + 1) all ≡ take i all ++ item ∷ [] =
    take_more all i item c.loop-reply-test.true ∙ ap (λ x. take i all ++ x ∷ [])
    (sym c.reply-item.is) in
    let whole : (take i all ++ item ∷ []) ++ drop (i + 1) all ≡ all =
    ap (λ l. l ++ drop (i + 1) all) (sym more) ∙ take-append-drop (i + 1) all in
    out_cut _ c.from_residual.result _ _ _ c.from_residual.ensures.1
    (subst (λ l. AppendsPart (g.W.Write.contents c.args.writer.now)
    (g.W.Write.contents c.write_line.new.writer) (concat (map text l))) whole
    (broken_at text (take i all) item _ _ _ (drop (i + 1) all) c.loop-reply.invariant
    c.in_err-write_line.ensures))

pub returns : goal.returns
returns g c =
    let i = c.loop-reply.reply-index in
    let all = c.args.replies.now in
    let text = (λ (r : Reply). reply_line (seen r)) in
    out_flushed c.flush.result _ _ _ _
    (subst (λ l. Appends (g.W.Write.contents c.args.writer.now)
    (g.W.Write.contents c.loop-reply.writer) (concat (map text l)))
    (take_all i all c.loop-reply-test.false) c.loop-reply.invariant) c.flush.ensures.bytes
