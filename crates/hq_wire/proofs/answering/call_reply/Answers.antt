use Rattle.std.proofs.Common.{◌≡◌, ◌+◌, inl, inr, Bool, true, false, cond, Result, Ok}
use Rattle.std.proofs.Common.{rules, refl, sym, subst, arith, ◌∙◌}
use Rattle.hq_values.specs.declared.failure.Refusal.{Refusal}
use Rattle.hq_tables.specs.Shelves.{OnOpenSound}
use Rattle.hq_requests.specs.Calls.{Asked, CallOf}
use Rattle.hq_requests.specs.Bodies.{error_told, number_shown}
use Rattle.hq_wire.specs.Exchanges.{Exchanged, MayReplyTo, with_refusals}
use Rattle.hq_wire.specs.Replies.{plain, seen, status_of, tells_store}
use Rattle.hq_wire.proofs.Alone.{done_once, tells_answer}
use Rattle.hq_wire.proofs.Exchanging.{counts_told, fault_closes, fault_told, leaves_one}
use Rattle.hq_wire.proofs.Exchanging.{no_deeds, rendered_all, tells_none}
use Rattle.hq_wire.proofs.Numbers.{of_answer}
use Rattle.hq_wire.proofs.answering.call_reply.Goals as goal

differ : false ≡ true → ⊥
differ e = cc

pub answer_reply-requires : goal.answer_reply-requires
answer_reply-requires g c = let shown = c.in-Ok.ensures.shown in
    subst (λ n. number_shown n ≡ error_told (status_of n) c.in-Ok.rendered.bytes.items)
    (sym shown.1.0) (of_answer shown.0 c.in-Ok.rendered.bytes.items shown.2)

pub returns-in-Ok-clause-done : goal.returns-in-Ok-clause-done
returns-in-Ok-clause-done g c = λ d entry.
    let number = c.in-Ok.rendered.number in
    let none : tells_store (plain (status_of number) c.in-Ok.rendered.bytes.items) ≡ false =
    tells_answer (status_of number) number c.in-Ok.rendered.bytes.items refl in
    let tally = c.in-Ok.ensures.kept.tally in
    let old = g.D.Acts.sight.store.fault_count c.args.desk.now in
    let new = g.D.Acts.sight.store.fault_count c.act.new.self in
    let sight = with_refusals g.M.Memory.refused g.D.Acts.sight in
    let called : Result Asked Refusal = Ok (CallOf c.args.caller.entry.now.name c.args.call) in
    let told = plain (status_of number) c.in-Ok.rendered.bytes.items in
    let host = sight.host c.args.desk.now in
    let replied : OnOpenSound sight.store c.args.desk.now c.act.new.self
    (MayReplyTo sight.store.may_answer host d (sight.store.tables c.args.desk.now) c.args.at called
    told (sight.store.tables c.act.new.self)) = search rules in
    subst (λ r. Exchanged sight d c.args.desk.now (record { at = c.args.at; called = called }) r
    c.act.new.self) (sym c.answer_reply.ensures.told) (record {
      replied = replied;
      tells = inl (
        c.in-Ok.ensures.shown.0,
        λ i. plain (status_of (c.in-Ok.ensures.shown.1.0 i))
            (c.in-Ok.ensures.shown.1.1 i),
      );
      anyway = λ closed. absurd (differ (sym tally.1 ∙ closed));
      closed = tells_none told none;
      sound = search rules;
      stays = search rules;
      stops = λ clean ours fit rests.
          let left = c.in-Ok.ensures.kept.rests clean ours tally.1 rests in (
            left.0,
            λ t may. (
              sight.store.tables c.act.new.self,
              done_once sight.store.may_answer host d _ _ c.args.at called told
                  (replied clean ours tally.1 fit),
              inl (left.1 t may),
            ),
          );
      shut = λ closed. absurd (differ (sym tally.0 ∙ closed));
      counted = λ small. subst (λ (b : Bool). cond b 1 0 + old ≡ new) (sym none)
          (omega (arith, tally.2));
    })

pub returns-in-Err-clause-done : goal.returns-in-Err-clause-done
returns-in-Err-clause-done g c = λ d entry.
    let sight = with_refusals g.M.Memory.refused g.D.Acts.sight in
    let fault = c.in-Err.fault in
    let r = seen c.fault_reply.result in
    let none = no_deeds fault c.args.at (Ok (CallOf c.args.caller.entry.now.name c.args.call)) r
    c.fault_reply.ensures.told in
    let kept = rendered_all g.M.Memory.refused g.D.Acts.sight _ _ _ _ (λ answer told. tt)
    c.in-Err.ensures.kept in
    record {
      replied = λ clean ours open_ sound. inr (
        fault,
        kept.cause,
        (
          c.fault_reply.ensures.told,
          kept.none clean ours open_,
        ),
      );
      tells = inr (fault, kept.cause, c.fault_reply.ensures.told);
      anyway = fault_told fault _ _ _ _ r c.in-Err.ensures.kept.tally c.fault_reply.ensures.told;
      closed = fault_closes fault _ _ _ _ r c.in-Err.ensures.kept.tally c.fault_reply.ensures.told;
      sound = search rules;
      stays = search rules;
      stops = λ clean ours fit rests. leaves_one sight.store (sight.host c.args.desk.now) d
          c.args.desk.now c.act.new.self c.args.caller.entry.now c.args.at c.args.call r none entry
          (c.in-Err.ensures.stops clean ours fit rests);
      shut = λ closed. none;
      counted = counts_told fault _ _ _ _ r c.in-Err.ensures.kept.tally
          c.fault_reply.ensures.told;
    }
