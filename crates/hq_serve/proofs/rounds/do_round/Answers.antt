use Rattle.std.proofs.Common.{◌≡◌, inl, map, refl, ap, ◌∙◌, subst, []}
use Rattle.hq_desk.specs.Desks.{on}
use Rattle.hq_wire.specs.Exchanges.{ask_of, with_refusals}
use Rattle.hq_wire.specs.Replies.{seen}
use Rattle.hq_together.specs.Together.{ServedInRound}
use Rattle.hq_together.proofs.Served.{wanted}
use Rattle.hq_requests.specs.Named.{whose_exchange, whose_told}
use Rattle.hq_serve.specs.Coming.{each_with, sent_each}
use Rattle.hq_serve.specs.Taking.{reply_entry, wants_of}
use Rattle.hq_serve.proofs.Taking.{sent_as, did_more, told_so, wants_so}
use Rattle.hq_serve.proofs.rounds.do_round.Goals as goal

pub returns-in-Ok-clause-replies : goal.returns-in-Ok-clause-replies
returns-in-Ok-clause-replies g c =
    let sight = with_refusals g.M.Memory.refused (on g.S.Shelf.sight) in
    let d = c.args.directory.now in
    let clients = c.args.round_of.now.clients.items in
    let so = rw c.in-Ok.is at c.round-replies.ensures.served in
    let xs = c.args.round_of.now.exchanges.items in
    let whose = subst (λ ys. map whose_told c.in-Ok.replies.items ≡ map (whose_exchange d) ys)
    c.as_slice.ensures.value (rw c.in-Ok.is at c.round-replies.ensures.whose) in
    let sent = did_more g.K.Clients.does g.K.Clients.does_on c.args.clients.now
    c.round_done.new.self c.send_all.new.clients []
    (sent_each clients (map seen c.as_slice-in-Ok.result.now))
    (sent_each clients (map seen c.as_slice-in-Ok.result.now)) refl
    c.round_done.ensures.nothing c.send_all.ensures.sent in
    record {
      replies = so.told;
      served = subst (λ xs. ServedInRound sight d c.args.desk (map (ask_of d) xs) so.told
          c.round-replies.result.1) c.as_slice.ensures.value so.served;
      sent = subst (λ s. g.K.Clients.does c.args.clients.now s c.send_all.new.clients)
          (ap (λ rs. sent_each clients (map seen rs)) c.as_slice-in-Ok.ensures.value
          ∙ sent_as clients c.in-Ok.replies.items so.told so.sent) sent;
      told = subst (λ es. g.L.Log.tells c.args.log.now es c.send_all.new.log)
          (ap (each_with reply_entry xs) c.as_slice-in-Ok.ensures.value
          ∙ told_so d xs c.in-Ok.replies.items so.told so.sent whose)
          c.send_all.ensures.told;
    }

pub returns-in-Err-clause-replies : goal.returns-in-Err-clause-replies
returns-in-Err-clause-replies g c =
    let sight = with_refusals g.M.Memory.refused (on g.S.Shelf.sight) in
    let d = c.args.directory.now in
    let xs = c.args.round_of.now.exchanges.items in
    let clients = c.args.round_of.now.clients.items in
    let no = rw c.in-Err.is at c.round-replies.ensures.none in
    let served = wanted sight d c.args.desk c.round-replies.result.1
    (map (ask_of d) c.as_slice.result.now) (inl (refl, no.0)) no.1 in
    let here = subst (λ ys. ServedInRound sight d c.args.desk (map (ask_of d) ys) (wants_of ys)
    c.round-replies.result.1) c.as_slice.ensures.value
    (subst (λ rs. ServedInRound sight d c.args.desk (map (ask_of d) c.as_slice.result.now) rs
    c.round-replies.result.1) (wants_so d c.as_slice.result.now) served) in
    record {
      replies = wants_of xs;
      served = here;
      sent = did_more g.K.Clients.does g.K.Clients.does_on c.args.clients.now
          c.round_done.new.self c.send_wants.new.clients [] (sent_each clients (wants_of xs))
          (sent_each clients (wants_of xs)) refl c.round_done.ensures.nothing
          c.send_wants.ensures.sent;
      told = c.send_wants.ensures.told;
    }
