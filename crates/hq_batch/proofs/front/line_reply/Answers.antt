use Rattle.hq_wire.specs.Exchanges.{with_refusals}
use Rattle.std.proofs.Common.{None, inl, refl, subst}
use Rattle.hq_values.specs.declared.failure.Refusal.TheVariants.{BadRequest}
use Rattle.hq_wire.specs.Replies.{seen}
use Rattle.hq_wire.proofs.Exchanging.{refused, refused_so}
use Rattle.hq_batch.specs.Steps.{SendsLine}
use Rattle.hq_batch.proofs.front.line_reply.Goals as goal

pub returns-in-None : goal.returns-in-None
returns-in-None g c =
    let sight = (with_refusals g.M.Memory.refused g.D.Acts.sight) in
    let d = c.args.directory.now in
    let desk = c.args.desk.now in
    let r = seen c.refusal_reply.result in
    subst (λ asked. SendsLine sight d desk asked (record {
      at = None;
      asked = None;
      reply = c.refusal_reply.result;
    }) desk) c.in-None.ensures
    (record {
      told = r;
      sent = (refl, refl);
      done = refused sight d desk 0 BadRequest r
          (refused_so g.M.Memory.refused g.D.Acts.sight _ r c.refusal_reply.ensures.told)
          c.refusal_reply.ensures.store;
      moment = refl;
      holds = inl refl;
      whose = c.refusal_reply.ensures.whose;
    })
