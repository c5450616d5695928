use Rattle.std.proofs.Common.{◌≡◌, Result, Ok, Err, refl, sym, ap, ◌∙◌, subst}
use Rattle.hq_values.specs.Readers.{ReadsIn}
use Rattle.hq_values.specs.declared.failure.Refusal.{Refusal}
use Rattle.hq_requests.specs.Spans.{whom_seen}
use Rattle.hq_requests.specs.Calls.{Asked, CallOf, CallOfAll, IsAskedBy, IsKnown, asked_seen}
use Rattle.hq_requests.specs.Calls.{call_of}
use Rattle.hq_rules.specs.Each.{each_call}
use Rattle.hq_wire.specs.Exchanges.{Exchanged, ask_of, with_refusals}
use Rattle.hq_wire.specs.Replies.{seen, reply_of_fault}
use Rattle.hq_wire.proofs.Exchanging.{no_room, refused, refused_so, wanted}
use Rattle.hq_wire.proofs.Serving.{told_once}
use Rattle.hq_wire.proofs.answering.exchange.Goals as goal

pub returns-in-Ok-CallOf-clause-done : goal.returns-in-Ok-CallOf-clause-done
returns-in-Ok-CallOf-clause-done g c =
    let sight = with_refusals g.M.Memory.refused g.D.Acts.sight in
    let d = c.args.directory.now in
    let x = c.args.exchange.now in
    let old = c.args.desk.now in
    let new = c.call_reply.new.desk in
    let r = seen c.call_reply.result in
    let called : call_of d x
    ≡ Ok (CallOf c.in-Ok-CallOf.caller.entry.now.name c.in-Ok-CallOf.call) =
    c.in-Ok-CallOf.ensures.call ∙ (λ i. Ok (asked_seen (c.in-Ok-CallOf.field-0-is i))) in
    let done = c.call_reply.ensures.done d
    (subst (IsKnown d) c.in-Ok-CallOf.field-0-is c.in-Ok-CallOf.ensures.known) in
    told_once sight d old new (ask_of d x) c.call_reply.result r (refl, refl)
    (subst (λ (asked : Result Asked Refusal). Exchanged sight d old
    (record { at = x.at; called = asked }) r new) (sym called) done)

pub returns-in-Ok-CallOfAll-clause-done : goal.returns-in-Ok-CallOfAll-clause-done
returns-in-Ok-CallOfAll-clause-done g c =
    let sight = with_refusals g.M.Memory.refused g.D.Acts.sight in
    let d = c.args.directory.now in
    let x = c.args.exchange.now in
    let old = c.args.desk.now in
    let new = c.call_all.new.desk in
    let so = c.call_all.ensures.done in
    let called : call_of d x ≡ Ok (CallOfAll (whom_seen c.in-Ok-CallOfAll.span)
    (each_call c.in-Ok-CallOfAll.each)) =
    c.in-Ok-CallOfAll.ensures.call ∙ (λ i. Ok (asked_seen (c.in-Ok-CallOfAll.field-0-is i))) in
    told_once sight d old new (ask_of d x) c.call_all.result so.0 so.1
    (subst (λ (asked : Result Asked Refusal). Exchanged sight d old
    (record { at = x.at; called = asked }) so.0 new) (sym called) so.2)

pub returns-in-Err-Refused-clause-done : goal.returns-in-Err-Refused-clause-done
returns-in-Err-Refused-clause-done g c =
    let sight = with_refusals g.M.Memory.refused g.D.Acts.sight in
    let d = c.args.directory.now in
    let x = c.args.exchange.now in
    let desk = c.args.desk.now in
    let r = seen c.refusal_reply.result in
    let called : call_of d x ≡ Err c.in-Err-Refused.refusal =
    subst (λ e. ReadsIn g.M.Memory.refused (Err e) (call_of d x))
    c.in-Err-Refused.field-0-is c.in-Err-Refused.ensures.call
    in
    told_once sight d desk desk (ask_of d x) c.refusal_reply.result r (refl, refl)
    (subst (λ (asked : Result Asked Refusal). Exchanged sight d desk
    (record { at = x.at; called = asked }) r desk) (sym called)
    (refused sight d desk x.at c.in-Err-Refused.refusal r
    (refused_so g.M.Memory.refused g.D.Acts.sight _ r c.refusal_reply.ensures.told)
    c.refusal_reply.ensures.store))

pub returns-in-Err-Fault-clause-done : goal.returns-in-Err-Fault-clause-done
returns-in-Err-Fault-clause-done g c =
    let d = c.args.directory.now in
    let x = c.args.exchange.now in
    let desk = c.args.desk.now in
    let r = seen c.fault_reply.result in
    let sight = with_refusals g.M.Memory.refused g.D.Acts.sight in
    let want = subst (λ e. ReadsIn g.M.Memory.refused (Err e) (call_of d x))
    c.in-Err-Fault.field-0-is c.in-Err-Fault.ensures.call in
    told_once sight d desk desk (ask_of d x) c.fault_reply.result r (refl, refl)
    (no_room sight d desk (ask_of d x) r (wanted g.M.Memory.refused g.D.Acts.sight r want.1
    (c.fault_reply.ensures.told ∙ ap reply_of_fault want.0)))

pub returns-in-Ok-CallOf-clause-whose : goal.returns-in-Ok-CallOf-clause-whose
returns-in-Ok-CallOf-clause-whose g c = c.call_reply.ensures.whose
    ∙ sym (subst (IsAskedBy c.args.directory.now c.args.exchange.now) c.in-Ok-CallOf.field-0-is
    c.in-Ok-CallOf.ensures.caller)

pub returns-in-Ok-CallOfAll-clause-whose : goal.returns-in-Ok-CallOfAll-clause-whose
returns-in-Ok-CallOfAll-clause-whose g c = c.call_all.ensures.whose
    ∙ sym (subst (IsAskedBy c.args.directory.now c.args.exchange.now) c.in-Ok-CallOfAll.field-0-is
    c.in-Ok-CallOfAll.ensures.caller)
