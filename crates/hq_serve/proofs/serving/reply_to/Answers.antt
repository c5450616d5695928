use Rattle.hq_wire.specs.Exchanges.{with_refusals}
use Rattle.std.proofs.Common.{None, Some, inl, inr, refl, ap, subst}
use Rattle.hq_http.specs.Requests.{nothing, refused, request}
use Rattle.hq_http.specs.Stages.{request_seen, InputIs}
use Rattle.hq_wire.specs.Replies.{seen}
use Rattle.hq_wire.proofs.Exchanging.{refused_so}
use Rattle.hq_serve.proofs.Connected.{of_nothing, of_refusal, of_request}
use Rattle.hq_serve.proofs.serving.reply_to.Goals as goal

pub returns-in-Nothing : goal.returns-in-Nothing
returns-in-Nothing g c = λ a b h.
    let sight = with_refusals g.M.Memory.refused g.D.Acts.sight in
    record {
      asked = nothing;
      reply = None;
      sent = tt;
      answered = of_nothing sight c.args.directory.now c.args.at a b
          c.args.desk.now
          (subst (InputIs g.M.Memory.refused a b) c.in-Nothing.is h);
      holds = tt;
      whose = tt;
    }

pub returns-in-Refused : goal.returns-in-Refused
returns-in-Refused g c = λ a b h.
    let sight = with_refusals g.M.Memory.refused g.D.Acts.sight in
    let r = seen c.refusal_reply.result in
    let came = subst (InputIs g.M.Memory.refused a b) c.in-Refused.is h in
    record {
      asked = refused c.in-Refused.refusal;
      reply = Some r;
      sent = (refl, refl);
      answered = of_refusal sight c.args.directory.now c.args.at a b
          c.args.desk.now c.in-Refused.refusal r came
          (refused_so g.M.Memory.refused g.D.Acts.sight _ r c.refusal_reply.ensures.told)
          c.refusal_reply.ensures.store;
      holds = tt;
      whose = c.refusal_reply.ensures.whose;
    }

pub returns-in-NoRoom : goal.returns-in-NoRoom
returns-in-NoRoom g c = λ a b h. record {
  asked = nothing;
  reply = Some (seen c.fault_reply.result);
  sent = (refl, refl);
  answered = let room = subst (InputIs g.M.Memory.refused a b) c.in-NoRoom.is h in inr (
    room.0,
    inl (refl, room.1),
    refl,
    ap Some c.fault_reply.ensures.told,
    refl,
  );
  holds = tt;
  whose = c.fault_reply.ensures.whose;
}

pub returns-in-Request : goal.returns-in-Request
returns-in-Request g c = λ a b h.
    let sight = with_refusals g.M.Memory.refused g.D.Acts.sight in
    let so = c.exchange-reply.ensures.done in
    let came = subst (InputIs g.M.Memory.refused a b) c.in-Request.is h in
    let told = c.exchange_of-asked.result in
    record {
      asked = request (request_seen c.in-Request.request);
      reply = Some so.told;
      sent = so.sent;
      answered = of_request sight c.args.directory.now
          c.args.at a b c.args.desk.now (request_seen c.in-Request.request) told so.told
          c.exchange-reply.new.desk came
          c.exchange_of-asked.ensures
          so.done;
      holds = c.exchange_of-asked.ensures;
      whose = c.exchange-reply.ensures.whose;
    }
