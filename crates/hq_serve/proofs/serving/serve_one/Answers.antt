use Rattle.hq_wire.specs.Exchanges.{with_refusals}
use Rattle.std.proofs.Common.{inl, inr}
use Rattle.std.proofs.KnownBytes.{Keeps-refl}
use Rattle.hq_serve.proofs.Logging.{logged_as}
use Rattle.hq_serve.proofs.Connected.{broken_off, part_as, written}
use Rattle.hq_serve.proofs.Connected.{written_as, written_none}
use Rattle.hq_serve.proofs.serving.serve_one.Goals as goal

pub returns-in-None-clause-ends : goal.returns-in-None-clause-ends
returns-in-None-clause-ends g c =
    let so = c.in-None.ensures _ _ c.in-Ok.ensures.told in
    (so.reply, (so.asked, so.answered), written_none _ _ so.reply so.sent (Keeps-refl _))

pub returns-in-Ok-write_reply-clause-ends : goal.returns-in-Ok-write_reply-clause-ends
returns-in-Ok-write_reply-clause-ends g c =
    let so = c.in-Some.ensures _ _ c.in-Ok.ensures.told in (
      so.reply,
      (so.asked, so.answered),
      written _ _ c.in-Some.replied.reply so.reply so.sent c.in-Ok-write_reply.ensures,
    )

pub returns-clause-ends : goal.returns-clause-ends
returns-clause-ends g c =
    let sight = with_refusals g.M.Memory.refused g.D.Acts.sight in
    let so = c.in-Some.ensures _ _ c.in-Ok.ensures.told in
    let reply = c.in-Some.replied.reply in
    broken_off sight c.args.directory.now c.args.at _ _ c.args.desk.now c.reply_to.new.desk _ _
    reply so.reply so.sent (so.asked, so.answered) c.in-Err-write_reply.ensures

pub returns-in-None-clause-logged : goal.returns-in-None-clause-logged
returns-in-None-clause-logged g c = inl (Keeps-refl _, c.begin.ensures)

pub returns-in-Ok-write_reply-clause-logged : goal.returns-in-Ok-write_reply-clause-logged
returns-in-Ok-write_reply-clause-logged g c =
    let sight = with_refusals g.M.Memory.refused g.D.Acts.sight in
    let so = c.in-Some.ensures _ _ c.in-Ok.ensures.told in
    let line = logged_as sight c.args.directory.now c.args.at _ _ c.args.desk.now
    c.reply_to.new.desk g.L.Log.tells g.L.Log.told_on _ _ _ so.asked c.in-Some.replied
    c.answered.result so.reply so.sent so.answered so.holds so.whose c.answered.ensures
    c.begin.ensures c.replied.ensures in
    inr (
      line.0,
      written_as _ _ c.in-Some.replied.reply line.0 line.1 c.in-Ok-write_reply.ensures,
      line.2,
    )

pub returns-clause-logged : goal.returns-clause-logged
returns-clause-logged g c =
    let sight = with_refusals g.M.Memory.refused g.D.Acts.sight in
    let so = c.in-Some.ensures _ _ c.in-Ok.ensures.told in
    let line = logged_as sight c.args.directory.now c.args.at _ _ c.args.desk.now
    c.reply_to.new.desk g.L.Log.tells g.L.Log.told_on _ _ _ so.asked c.in-Some.replied
    c.answered.result so.reply so.sent so.answered so.holds so.whose c.answered.ensures
    c.begin.ensures c.replied.ensures in (
      line.0,
      part_as _ _ c.in-Some.replied.reply line.0 line.1 c.in-Err-write_reply.ensures,
      line.2,
    )
