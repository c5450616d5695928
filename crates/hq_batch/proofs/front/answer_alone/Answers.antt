use Rattle.hq_wire.specs.Exchanges.{with_refusals}
use Rattle.std.proofs.Common.{◌≡◌, ◌∷◌, ◌++◌, [], sym}
use Rattle.hq_wire.specs.Replies.{seen}
use Rattle.hq_batch.proofs.Logging.{logged_as}
use Rattle.hq_batch.specs.Batches.{reply_line, three_digits}
use Rattle.hq_batch.proofs.front.answer_alone.Goals as goal

pub returns : goal.returns
returns g c =
    let line = reply_line (seen c.line_reply-replied.result.reply) in
    let so = c.line_reply-replied.ensures in
    let sight = with_refusals g.M.Memory.refused g.D.Acts.sight in
    let told = logged_as sight c.args.directory.now g.L.Log.tells g.L.Log.told_on c.args.log.now
    c.begin.new.self c.replied.new.self _ _ _ c.answered.result c.line_reply-replied.result
    c.answered.ensures so c.begin.ensures c.replied.ensures in
    let same : line ≡ reply_line so.told = sym (λ i. three_digits (so.sent.0 i) ++ 32 ∷ so.sent.1 i
    ++ 10 ∷ []) in (
      line,
      record {
        reply = so.told;
        line_is = same;
        done = so.done;
        entry = told.0;
        entry_is = told.1;
        told = told.2;
      },
      c.write_reply.ensures,
    )
