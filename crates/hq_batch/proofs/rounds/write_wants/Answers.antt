use Rattle.std.proofs.Common.{◌≡◌, ◌+◌, ◌∙◌, ◌∷◌, ◌++◌, [], map, take, drop, sym, ap}
use Rattle.std.proofs.Common.{subst, take-append-drop}
use Rattle.std.specs.List.{concat}
use Rattle.std.specs.Io.KnownBytes.{Appends}
use Rattle.std.proofs.lemmas.List.{take_all, take_more}
use Rattle.hq_requests.specs.declared.exchanges.Exchange.{Exchange}
use Rattle.hq_wire.specs.Replies.{seen}
use Rattle.hq_lines.specs.Written.{AppendsPart}
use Rattle.hq_lines.proofs.Written.{out_cut, out_flushed}
use Rattle.hq_batch.specs.Batches.{reply_line}
use Rattle.hq_batch.proofs.Lined.{broken_at, written_more}
use Rattle.hq_batch.proofs.rounds.write_wants.Goals as goal

pub loop-asked-preserved : goal.loop-asked-preserved
loop-asked-preserved g c =
    let i = c.loop-asked._asked-index in
    let all = c.args.asked.now in
    let item = c._asked-item.result in
    let text = (λ (x : Exchange). reply_line (seen c.args.want.now)) in
    let more : take (i + 1) all ≡ take i all ++ item ∷ [] =
    take_more all i item c.loop-asked-test.true ∙ ap (λ x. take i all ++ x ∷ [])
    (sym c._asked-item.is) in
    subst (λ l. Appends (g.W.Write.contents c.args.writer.now)
    (g.W.Write.contents c.write_line.new.writer) (concat (map text l))) (sym more)
    (written_more text (take i all) item _ _ _ c.loop-asked.invariant
    c.in_ok-write_line.ensures)

pub returns-in_err-write_line : goal.returns-in_err-write_line
returns-in_err-write_line g c =
    let i = c.loop-asked._asked-index in
    let all = c.args.asked.now in
    let item = c._asked-item.result in
    let text = (λ (x : Exchange). reply_line (seen c.args.want.now)) in
    let more : take (i + 1) all ≡ take i all ++ item ∷ [] =
    take_more all i item c.loop-asked-test.true ∙ ap (λ x. take i all ++ x ∷ [])
    (sym c._asked-item.is) in
    let whole : (take i all ++ item ∷ []) ++ drop (i + 1) all ≡ all =
    ap (λ l. l ++ drop (i + 1) all) (sym more) ∙ take-append-drop (i + 1) all in
    out_cut _ c.from_residual.result _ _ _ c.from_residual.ensures.1
    (subst (λ l. AppendsPart (g.W.Write.contents c.args.writer.now)
    (g.W.Write.contents c.write_line.new.writer) (concat (map text l))) whole
    (broken_at text (take i all) item _ _ _ (drop (i + 1) all) c.loop-asked.invariant
    c.in_err-write_line.ensures))

pub returns : goal.returns
returns g c =
    let i = c.loop-asked._asked-index in
    let all = c.args.asked.now in
    let text = (λ (x : Exchange). reply_line (seen c.args.want.now)) in
    out_flushed c.flush.result _ _ _ _
    (subst (λ l. Appends (g.W.Write.contents c.args.writer.now)
    (g.W.Write.contents c.loop-asked.writer) (concat (map text l)))
    (take_all i all c.loop-asked-test.false) c.loop-asked.invariant) c.flush.ensures.bytes
