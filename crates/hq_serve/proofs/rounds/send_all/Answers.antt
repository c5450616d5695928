use Rattle.std.proofs.Common.{◌≡◌, ◌≤◌, ◌<◌, ◌+◌, ◌++◌, ◌∷◌, [], inl, inr, length, map, take, arith}
use Rattle.std.proofs.Common.{ap, rules, slice_index_or, subst, sym, ◌∙◌}
use Rattle.std.proofs.lemmas.Grind.{common_steps}
use Rattle.std.proofs.lemmas.List.{length-map, length-take-le, map_more, take-map, take_more}
use Rattle.hq_wire.specs.Replies.{seen}
use Rattle.hq_serve.specs.Coming.{each_with, sent_each, sent_to}
use Rattle.hq_serve.specs.Taking.{reply_entry}
use Rattle.hq_serve.proofs.Taking.{did_more, each_one, each_short}
use Rattle.hq_serve.proofs.rounds.send_all.Goals as goal

pub loop-place-preserved : goal.loop-place-preserved
loop-place-preserved g c =
    let k = c.loop-place.place in
    let clients = c.args.round.now.clients.items in
    let replies = c.args.replies.now in
    let reply = c.in-Some.reply.now in
    let told = map seen replies in
    let client = slice_index_or clients k 0 in
    let less : k < length clients = subst (λ l. k < length l) c.deref-client-items.ensures.value
    c.loop-place-test.true in
    let fewer : k < length replies = search rules in
    let here : slice_index_or replies k reply ≡ reply = search rules in
    let xs = c.args.round.now.exchanges.items in
    let asked = c.in-Some-get.asked.now in
    let as_far : k < length xs = subst (λ n. k < n) c.requires less in
    let asked_here : slice_index_or xs k asked ≡ asked = search rules in
    let is_asked : take (k + 1) xs ≡ take k xs ++ asked ∷ [] =
    take_more xs k asked as_far ∙ ap (λ one. take k xs ++ one ∷ []) asked_here in
    let is_given : take (k + 1) replies ≡ take k replies ++ reply ∷ [] =
    take_more replies k reply fewer ∙ ap (λ one. take k replies ++ one ∷ []) here in
    let some_asked = length-take-le k xs (omega (arith, as_far)) in
    let some_given = length-take-le k replies (omega (arith, fewer)) in
    let evenly : length (take k xs) ≡ length (take k replies) =
    omega (arith, some_asked, some_given) in
    let is_client = take_more clients k 0 less in
    let is_reply : take (k + 1) told ≡ take k told ++ seen reply ∷ [] =
    take-map seen (k + 1) replies ∙ map_more seen replies k reply fewer
    ∙ (λ i. sym (take-map seen k replies) i ++ seen (here i) ∷ []) in
    let some = length-take-le k clients (omega (arith, less)) in
    let as_many = length-take-le k told (omega (arith, fewer, length-map replies seen)) in
    let even : length (take k clients) ≡ length (take k told) = omega (arith, some, as_many) in (
      did_more g.K.Clients.does g.K.Clients.does_on c.args.clients.now c.loop-place.clients
          c.send.new.clients (sent_each (take k clients) (take k told))
          (sent_to client (seen reply) ∷ []) (sent_each (take (k + 1) clients) (take (k + 1) told))
          ((λ i. sent_each (is_client i) (is_reply i))
          ∙ each_one sent_to (take k clients) (take k told) client (seen reply) even)
          c.loop-place.invariant.0
          (subst (λ l. g.K.Clients.does c.loop-place.clients
          (sent_to (slice_index_or l k 0) (seen reply) ∷ []) c.send.new.clients)
          c.deref-client-items.ensures.value c.send.ensures.sent),
      did_more g.L.Log.tells g.L.Log.told_on c.args.log.now c.loop-place.log c.send.new.log
          (each_with reply_entry (take k xs) (take k replies)) (reply_entry asked reply ∷ [])
          (each_with reply_entry (take (k + 1) xs) (take (k + 1) replies))
          ((λ i. each_with reply_entry (is_asked i) (is_given i))
          ∙ each_one reply_entry (take k xs) (take k replies) asked reply evenly)
          c.loop-place.invariant.1 c.send.ensures.told,
      c.send.ensures.left ∙ c.loop-place.invariant.2,
    )

pub returns-after-loop-place-clause-sent : goal.returns-after-loop-place-clause-sent
returns-after-loop-place-clause-sent g c =
    let k = c.loop-place.place in
    let clients = c.args.round.now.clients.items in
    let replies = map seen c.args.replies.now in
    let all : length clients ≤ k = grind (arith, common_steps) in
    subst (λ s. g.K.Clients.does c.args.clients.now s c.loop-place.clients)
    (each_short sent_to k clients replies (inl all)) c.loop-place.invariant.0

pub returns-in_default-clause-sent : goal.returns-in_default-clause-sent
returns-in_default-clause-sent g c =
    let k = c.loop-place.place in
    let clients = c.args.round.now.clients.items in
    let replies = map seen c.args.replies.now in
    let all : length replies ≤ k = grind (arith, common_steps) in
    subst (λ s. g.K.Clients.does c.args.clients.now s c.loop-place.clients)
    (each_short sent_to k clients replies (inr all)) c.loop-place.invariant.0

pub returns-after-loop-place-clause-told : goal.returns-after-loop-place-clause-told
returns-after-loop-place-clause-told g c =
    let k = c.loop-place.place in
    let xs = c.args.round.now.exchanges.items in
    let all : length c.args.round.now.clients.items ≤ k = grind (arith, common_steps) in
    subst (λ es. g.L.Log.tells c.args.log.now es c.loop-place.log)
    (each_short reply_entry k xs c.args.replies.now
    (inl (subst (λ n. n ≤ k) c.requires all))) c.loop-place.invariant.1

pub returns-in_default-clause-told : goal.returns-in_default-clause-told
returns-in_default-clause-told g c =
    let k = c.loop-place.place in
    let xs = c.args.round.now.exchanges.items in
    let all : length c.args.replies.now ≤ k = grind (arith, common_steps) in
    subst (λ es. g.L.Log.tells c.args.log.now es c.loop-place.log)
    (each_short reply_entry k xs c.args.replies.now (inr all)) c.loop-place.invariant.1
