use Rattle.std.proofs.Common.{◌≡◌, ◌+◌, ◌++◌, ◌∷◌, [], map, take, refl, sym, ap, ◌∙◌, subst, arith}
use Rattle.std.specs.List.{AllZip}
use Rattle.std.proofs.lemmas.List.{take_all, take_more, map-append}
use Rattle.std.proofs.lemmas.Slice.Zip.{all_zipped_more}
use Rattle.hq_values.specs.Turns.{InTurn}
use Rattle.hq_values.proofs.Turns.{turns_on, one_turn}
use Rattle.hq_requests.specs.Named.{whose_exchange, whose_told}
use Rattle.hq_wire.specs.Exchanges.{Exchanged, ask_of, with_refusals}
use Rattle.hq_wire.specs.Replies.{IsSent}
use Rattle.hq_wire.proofs.Serving.{served}
use Rattle.hq_wire.proofs.headline.run.Goals as goal

pub loop-item-init : goal.loop-item-init
loop-item-init g c = record {
  each = ([], subst (λ rs. AllZip IsSent rs []) (sym c.in_ok-replies.ensures.items) tt, refl);
  whose = ap (map whose_told) c.in_ok-replies.ensures.items;
  count = c.in_ok-replies.ensures.room.0;
  room = c.in_ok-replies.ensures.room.1;
}

pub loop-item-preserved : goal.loop-item-preserved
loop-item-preserved g c =
    let d = c.args.directory.now in
    let i = c.loop-item.item-index in
    let xs = c.args.exchanges.now in
    let step = Exchanged (with_refusals g.M.Memory.refused g.D.Acts.sight) d in
    let item = c.item-item.result in
    let reply = c.exchange-reply.result in
    let so = c.exchange-reply.ensures.done in
    let pushed = c.push_reserved.ensures in
    let whose = whose_exchange d in
    let was = c.loop-item.invariant.each in
    let told = was.0 ++ so.told ∷ [] in
    let whole : take (i + 1) xs ≡ take i xs ++ item ∷ [] =
    take_more xs i item c.loop-item-test.true
    ∙ ap (λ x. take i xs ++ x ∷ []) (sym c.item-item.is) in
    let asked : map (ask_of d) (take (i + 1) xs) ≡ map (ask_of d) (take i xs) ++ ask_of d item
    ∷ [] = ap (map (ask_of d)) whole
    ∙ map-append (ask_of d) (take i xs) (item ∷ []) in
    let more : InTurn step c.args.desk.now (map (ask_of d) (take i xs) ++ ask_of d item ∷ []) told
    c.exchange-reply.new.desk = turns_on step _ _ _ _ _ _ _ was.2
    (one_turn step _ _ (ask_of d item) so.told so.done) in
    record {
      each = (
        told,
        subst (λ rs. AllZip IsSent rs told) (sym pushed.items)
            (all_zipped_more IsSent c.loop-item.replies.items was.0 reply so.told
            was.1 so.sent),
        subst (λ asks. InTurn step c.args.desk.now asks told c.exchange-reply.new.desk) (sym asked)
            more,
      );
      whose = ap (map whose_told) pushed.items
          ∙ map-append whose_told c.loop-item.replies.items (reply ∷ [])
          ∙ ap (λ ys. ys ++ whose_told reply ∷ [])
          c.loop-item.invariant.whose
          ∙ ap (λ y. map whose (take i xs) ++ y ∷ [])
          c.exchange-reply.ensures.whose
          ∙ sym (ap (map whose) whole
          ∙ map-append whose (take i xs) (item ∷ []));
      count = omega (arith, pushed.len);
      room = omega (arith, pushed.capacity);
    }

pub returns-clause-whose : goal.returns-clause-whose
returns-clause-whose g c =
    c.loop-item.invariant.whose
    ∙ ap (map (whose_exchange c.args.directory.now))
    (take_all c.loop-item.item-index c.args.exchanges.now (omega arith))

pub returns-clause-served : goal.returns-clause-served
returns-clause-served g c =
    let d = c.args.directory.now in
    let was = c.loop-item.invariant.each in
    record {
      told = was.0;
      sent = was.1;
      served = served (with_refusals g.M.Memory.refused g.D.Acts.sight) d _ _ _ was.0
          (subst (λ xs. InTurn (Exchanged (with_refusals g.M.Memory.refused g.D.Acts.sight) d)
          c.args.desk.now (map (ask_of d) xs)
          was.0 c.loop-item.desk) (take_all c.loop-item.item-index c.args.exchanges.now
          (omega arith)) was.2);
    }
