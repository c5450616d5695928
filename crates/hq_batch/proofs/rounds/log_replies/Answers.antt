use Rattle.std.proofs.Common.{◌∙◌, [], ◌∷◌, map, take, length, length-append, subst}
use Rattle.std.proofs.Common.{Bor, ap, rules, sym}
use Rattle.std.proofs.lemmas.Slice.Zip.{zip_end, zip_turn}
use Rattle.std.specs.List.{zip}
use Rattle.hq_requests.specs.declared.exchanges.Exchange.{Exchange}
use Rattle.hq_requests.specs.declared.reply.Reply.{Reply}
use Rattle.hq_batch.specs.Steps.{replied_entry}
use Rattle.hq_batch.proofs.Lined.{all_replied, one_replied, pair_entry}
use Rattle.hq_batch.proofs.rounds.log_replies.Goals as goal

pub loop-asked-init : goal.loop-asked-init
loop-asked-init g c = g.L.Log.none_told c.args.log.now

pub loop-asked-preserved : goal.loop-asked-preserved
loop-asked-preserved g c =
    let xs = c.args.asked.now in
    let rs = c.args.replies.now in
    let ys = c.loop-asked.yielded in
    let n = length ys in
    let x = c.in-Some.asked.now in
    let reply = c.in-Some.reply.now in
    let pair : Bor Exchange × Bor Reply = (c.in-Some.asked, c.in-Some.reply) in
    let turn = zip_turn xs rs ys _ c.loop-asked.asked-iterator c.next.new.self c.next.result
    (search rules) (search rules) c.loop-asked.yielded_by pair c.in-Some.is c.next.ensures.steps in
    subst (λ es. g.L.Log.tells c.args.log.now es c.replied.new.self)
    (sym (one_replied xs rs n x reply turn.0 turn.1 (turn.2 x) (turn.3 reply))
    ∙ ap (λ k. map pair_entry (take k (zip xs rs))) (sym (length-append ys (pair ∷ []))))
    (g.L.Log.told_on c.args.log.now c.loop-asked.log c.replied.new.self
    (map pair_entry (take n (zip xs rs))) (replied_entry x reply ∷ []) c.loop-asked.invariant
    c.replied.ensures)

pub returns : goal.returns
returns g c =
    let xs = c.args.asked.now in
    let rs = c.args.replies.now in
    let ys = c.loop-asked.yielded in
    let end = zip_end xs rs ys _ c.loop-asked.asked-iterator c.next.new.self c.next.result
    (search rules) (search rules) c.loop-asked.yielded_by c.in-None.is c.next.ensures.steps in
    subst (λ es. g.L.Log.tells c.args.log.now es c.loop-asked.log)
    (all_replied xs rs (length ys) end) c.loop-asked.invariant
