use Rattle.std.proofs.Common.{◌∷◌, ◌++◌, [], map, refl, sym, ap, ◌∙◌, subst, append-nil}
use Rattle.std.proofs.lemmas.List.{map-append}
use Rattle.hq_http.specs.Stages.{request_seen}
use Rattle.hq_wire.specs.Exchanges.{ask_of}
use Rattle.hq_wire.specs.Replies.{seen}
use Rattle.hq_serve.specs.Coming.{HasCome, IsToldAtOnce, at_once, in_round}
use Rattle.hq_serve.specs.Taking.{timed}
use Rattle.hq_serve.proofs.Taking.{ask_is, at_once_entry, timed_is}
use Rattle.hq_serve.proofs.rounds.take_one.Goals as goal

pub returns-in-Refused-clause-taken : goal.returns-in-Refused-clause-taken
returns-in-Refused-clause-taken g c =
    let r = seen c.refusal_reply-reply.result in
    record {
      taken = at_once c.args.came r;
      is_taken = subst (λ asked. IsToldAtOnce g.M.Memory.refused asked r) (sym c.in-Refused.is)
          c.refusal_reply-reply.ensures.told;
      is_of = refl;
      sent = c.send.ensures.sent;
      told = subst (λ w. g.L.Log.tells c.args.log.now (at_once_entry c.args.came.at w r ∷ [])
          c.send.new.log) c.refusal_reply-reply.ensures.whose c.send.ensures.told;
      uncounted = refl;
      clients = sym (append-nil c.args.round.now.clients.items);
      exchanges = λ d. sym (append-nil (map (ask_of d) c.args.round.now.exchanges.items));
      requests = sym (append-nil (map timed c.args.round.now.exchanges.items));
    }

pub returns-in-NoRoom-clause-taken : goal.returns-in-NoRoom-clause-taken
returns-in-NoRoom-clause-taken g c =
    let r = seen c.fault_reply-reply.result in
    record {
      taken = at_once c.args.came r;
      is_taken = subst (λ asked. IsToldAtOnce g.M.Memory.refused asked r) (sym c.in-NoRoom.is)
          c.fault_reply-reply.ensures.told;
      is_of = refl;
      sent = c.send-in-NoRoom.ensures.sent;
      told = subst (λ w. g.L.Log.tells c.args.log.now (at_once_entry c.args.came.at w r ∷ [])
          c.send-in-NoRoom.new.log) c.fault_reply-reply.ensures.whose c.send-in-NoRoom.ensures.told;
      uncounted = refl;
      clients = sym (append-nil c.args.round.now.clients.items);
      exchanges = λ d. sym (append-nil (map (ask_of d) c.args.round.now.exchanges.items));
      requests = sym (append-nil (map timed c.args.round.now.exchanges.items));
    }

pub returns-in-Err-clause-taken : goal.returns-in-Err-clause-taken
returns-in-Err-clause-taken g c =
    let r = seen c.fault_reply-reply-in-Err.result in
    let none = c.in-Err.ensures in
    record {
      taken = at_once c.args.came r;
      is_taken = subst (λ asked. IsToldAtOnce g.M.Memory.refused asked r) (sym c.in-Request.is)
          ((refl, none.0), c.fault_reply-reply-in-Err.ensures.told);
      is_of = refl;
      sent = c.send-in-Err.ensures.sent;
      told = subst (λ w. g.L.Log.tells c.args.log.now (at_once_entry c.args.came.at w r ∷ [])
          c.send-in-Err.new.log) c.fault_reply-reply-in-Err.ensures.whose
          c.send-in-Err.ensures.told;
      uncounted = none.1;
      clients = none.2 ∙ sym (append-nil c.args.round.now.clients.items);
      exchanges = λ d. ap (map (ask_of d)) none.3
          ∙ sym (append-nil (map (ask_of d) c.args.round.now.exchanges.items));
      requests = ap (map timed) none.3
          ∙ sym (append-nil (map timed c.args.round.now.exchanges.items));
    }

pub returns-in-Ok-clause-taken : goal.returns-in-Ok-clause-taken
returns-in-Ok-clause-taken g c =
    let q = request_seen c.in-Request.request in
    let added = c.in-Ok.ensures in
    record {
      taken = in_round c.args.came q;
      is_taken = subst (λ asked. HasCome asked q) (sym c.in-Request.is) refl;
      is_of = refl;
      sent = g.K.Clients.none_does c.args.clients.now;
      told = g.L.Log.none_told c.args.log.now;
      uncounted = added.0;
      clients = added.1;
      exchanges = λ d. ap (map (ask_of d)) added.2
          ∙ map-append (ask_of d) c.args.round.now.exchanges.items (c.exchange_of.result ∷ [])
          ∙ ap (λ a. map (ask_of d) c.args.round.now.exchanges.items ++ a ∷ [])
          (ask_is d c.exchange_of.result c.args.came.at q c.exchange_of.ensures);
      requests = ap (map timed) added.2
          ∙ map-append timed c.args.round.now.exchanges.items (c.exchange_of.result ∷ [])
          ∙ ap (λ a. map timed c.args.round.now.exchanges.items ++ a ∷ [])
          (timed_is c.exchange_of.result c.args.came.at q c.exchange_of.ensures);
    }
