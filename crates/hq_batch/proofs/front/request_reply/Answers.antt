use Rattle.hq_wire.specs.Exchanges.{with_refusals}
use Rattle.std.proofs.Common.{ℕ, Result, Some, inr, refl, subst}
use Rattle.hq_values.specs.declared.failure.Refusal.{Refusal}
use Rattle.hq_lines.specs.Fields.{line_request}
use Rattle.hq_requests.specs.Calls.{Asked, call_from}
use Rattle.hq_wire.specs.Exchanges.{Exchanged}
use Rattle.hq_wire.specs.Replies.{seen}
use Rattle.hq_wire.proofs.Exchanging.{no_room, wanted}
use Rattle.hq_batch.specs.Batches.{ask_in}
use Rattle.hq_batch.proofs.front.request_reply.Goals as goal

pub returns-in-Ok : goal.returns-in-Ok
returns-in-Ok g c =
    let sight = with_refusals g.M.Memory.refused g.D.Acts.sight in
    let d = c.args.directory.now in
    let is = c.in-Ok.ensures in
    let so = c.exchange-reply.ensures.done in
    record {
      told = so.told;
      sent = so.sent;
      done = subst (λ (a : ℕ × Result Asked Refusal). Exchanged sight d
          c.args.desk.now
          (record { at = a.0; called = a.1 }) so.told c.exchange-reply.new.desk)
          (λ i. (is.0 i, call_from d (is.1 i) (is.2 i) (is.3 i) (is.4 i))) so.done;
      moment = refl;
      holds = (line_request c.args.line.now, refl, is);
      whose = c.exchange-reply.ensures.whose;
    }

pub returns-in-Err : goal.returns-in-Err
returns-in-Err g c =
    let d = c.args.directory.now in
    let ask = ask_in d (Some (line_request c.args.line.now)) in
    let r = seen c.fault_reply.result in
    record {
      told = r;
      sent = (refl, refl);
      done = no_room (with_refusals g.M.Memory.refused g.D.Acts.sight) d c.args.desk.now ask r
          (wanted g.M.Memory.refused g.D.Acts.sight r c.in-Err.ensures c.fault_reply.ensures.told);
      moment = refl;
      holds = inr (c.fault_reply.ensures.told, refl);
      whose = c.fault_reply.ensures.whose;
    }
