use Rattle.std.proofs.Common.{◌≡◌, ◌≤◌, ◌<◌, ◌+◌, ◌++◌, ◌∷◌, [], inl, inr, length, map, take}
use Rattle.std.proofs.Common.{arith, ap}
use Rattle.std.proofs.Common.{rules, slice_index_or, subst, sym, ◌∙◌}
use Rattle.std.proofs.lemmas.Grind.{common_steps}
use Rattle.std.proofs.lemmas.List.{length-map, length-take-le, map_more, take-map, take_more}
use Rattle.hq_values.specs.Refusals.{no_memory}
use Rattle.hq_requests.specs.declared.exchanges.Exchange.{Exchange}
use Rattle.hq_log.specs.Lines.{LogEntry}
use Rattle.hq_wire.specs.Replies.{SeenReply, reply_of_fault}
use Rattle.hq_serve.specs.Coming.{sent_each, sent_to}
use Rattle.hq_serve.specs.Logged.{TimedRequest, request_entry, told_each}
use Rattle.hq_serve.specs.Taking.{timed, wants_of}
use Rattle.hq_serve.proofs.Taking.{did_more, each_one, each_short, entry_is}
use Rattle.hq_serve.proofs.rounds.send_wants.Goals as goal

pub loop-place-preserved : goal.loop-place-preserved
loop-place-preserved g c =
    let k = c.loop-place.place in
    let clients = c.args.round.now.clients.items in
    let xs = c.args.round.now.exchanges.items in
    let wants = wants_of xs in
    let client = c.in-Some.client.now in
    let want : Exchange → SeenReply = λ x. reply_of_fault no_memory in
    let less : k < length xs = subst (λ l. k < length l) c.deref-exchange-items.ensures.value
    c.loop-place-test.true in
    let fewer : k < length clients = search rules in
    let here : slice_index_or clients k 0 ≡ client = search rules in
    let is_client : take (k + 1) clients ≡ take k clients ++ client ∷ [] =
    take_more clients k 0 fewer ∙ ap (λ one. take k clients ++ one ∷ []) here in
    let is_want : take (k + 1) wants ≡ take k wants ++ reply_of_fault no_memory ∷ [] =
    take-map want (k + 1) xs ∙ map_more want xs k c.exchange-item.result less
    ∙ ap (λ l. l ++ reply_of_fault no_memory ∷ []) (sym (take-map want k xs)) in
    let d = c.args.directory.now in
    let x = c.exchange-item.result in
    let reply = c.fault_reply-want.result in
    let x_here : slice_index_or xs k x ≡ x = search rules in
    let is_timed : take (k + 1) (map timed xs) ≡ take k (map timed xs) ++ timed x ∷ [] =
    take-map timed (k + 1) xs ∙ map_more timed xs k x less
    ∙ (λ i. sym (take-map timed k xs) i ++ timed (x_here i) ∷ []) in
    let some_timed = length-take-le k (map timed xs) (omega (arith, less, length-map xs timed)) in
    let some = length-take-le k clients (omega (arith, fewer)) in
    let as_many = length-take-le k wants (omega (arith, less, length-map xs want)) in
    let no_room = reply_of_fault no_memory in
    let entry : TimedRequest → SeenReply → LogEntry = λ q r. request_entry d q.at q.request r in
    let evenly : length (take k (map timed xs)) ≡ length (take k wants) =
    omega (arith, some_timed, as_many) in
    let even : length (take k clients) ≡ length (take k wants) = omega (arith, some, as_many) in (
      did_more g.K.Clients.does g.K.Clients.does_on c.args.clients.now c.loop-place.clients
          c.send.new.clients (sent_each (take k clients) (take k wants))
          (sent_to client (reply_of_fault no_memory) ∷ [])
          (sent_each (take (k + 1) clients) (take (k + 1) wants))
          ((λ i. sent_each (is_client i) (is_want i))
          ∙ each_one sent_to (take k clients) (take k wants) client (reply_of_fault no_memory) even)
          c.loop-place.invariant.0
          (subst (λ r. g.K.Clients.does c.loop-place.clients (sent_to client r ∷ [])
          c.send.new.clients) c.fault_reply-want.ensures.told c.send.ensures.sent),
      did_more g.L.Log.tells g.L.Log.told_on c.args.log.now c.loop-place.log c.send.new.log
          (told_each d (take k (map timed xs)) (take k wants)) (entry (timed x) no_room ∷ [])
          (told_each d (take (k + 1) (map timed xs)) (take (k + 1) wants))
          ((λ i. told_each d (is_timed i) (is_want i))
          ∙ each_one entry (take k (map timed xs)) (take k wants) (timed x) no_room evenly)
          c.loop-place.invariant.1
          (subst (λ e. g.L.Log.tells c.loop-place.log (e ∷ []) c.send.new.log)
          (entry_is d x reply no_room c.fault_reply-want.ensures.told
          (c.fault_reply-want.ensures.whose ∙ c.caller_named.ensures)) c.send.ensures.told),
      c.send.ensures.left ∙ c.loop-place.invariant.2,
    )

pub returns-after-loop-place-clause-sent : goal.returns-after-loop-place-clause-sent
returns-after-loop-place-clause-sent g c =
    let k = c.loop-place.place in
    let wants = wants_of c.args.round.now.exchanges.items in
    let all : length wants ≤ k = grind (arith, common_steps) in
    subst (λ s. g.K.Clients.does c.args.clients.now s c.loop-place.clients)
    (each_short sent_to k c.args.round.now.clients.items wants (inr all)) c.loop-place.invariant.0

pub returns-in_default-clause-sent : goal.returns-in_default-clause-sent
returns-in_default-clause-sent g c =
    let k = c.loop-place.place in
    let clients = c.args.round.now.clients.items in
    let all : length clients ≤ k = grind (arith, common_steps) in
    subst (λ s. g.K.Clients.does c.args.clients.now s c.loop-place.clients)
    (each_short sent_to k clients (wants_of c.args.round.now.exchanges.items) (inl all))
    c.loop-place.invariant.0

pub returns-after-loop-place-clause-told : goal.returns-after-loop-place-clause-told
returns-after-loop-place-clause-told g c =
    let k = c.loop-place.place in
    let xs = c.args.round.now.exchanges.items in
    let all : length (wants_of xs) ≤ k = grind (arith, common_steps) in
    subst (λ es. g.L.Log.tells c.args.log.now es c.loop-place.log)
    (each_short (λ (q : TimedRequest) (r : SeenReply).
    request_entry c.args.directory.now q.at q.request r) k (map timed xs) (wants_of xs) (inr all))
    c.loop-place.invariant.1
