use Rattle.std.proofs.Common.{◌≡◌, ◌+◌, ◌++◌, ◌∷◌, [], suc, map, take, drop, refl, sym}
use Rattle.std.proofs.Common.{ap, ◌∙◌, subst, arith}
use Rattle.std.proofs.lemmas.List.{take_all, take_more, map-append}
use Rattle.hq_rules.specs.Each.{each_call}
use Rattle.hq_admin.specs.Rounds.{customer_entry}
use Rattle.hq_admin.proofs.Reasons.{any_reason}
use Rattle.hq_admin.proofs.Called.{SoFar, on_end, one_more, split_at}
use Rattle.hq_admin.proofs.rounds.call_each.Goals as goal

pub loop-customer-preserved : goal.loop-customer-preserved
loop-customer-preserved g c =
    let i = c.loop-customer.customer-index in
    let xs = c.args.customers.now in
    let item = c.customer-item.result in
    let old = c.args.desk.now in
    let more : map customer_entry (take (i + 1) xs) ≡ map customer_entry (take i xs) ++ item.entry
    ∷ [] =
    ap (map customer_entry) (take_more xs i item c.loop-customer-test.true ∙ ap (λ x. take i xs ++ x
    ∷ []) (sym c.customer-item.is)) ∙ map-append customer_entry (take i xs) (item ∷ []) in
    record {
      so_far = subst (λ called. SoFar g.D.Acts.sight c.args.at (each_call c.args.each) old called
          c.push_reserved.new.self.items c.act.new.self) (sym more)
          (subst (λ told. SoFar g.D.Acts.sight c.args.at (each_call c.args.each) old
          (map customer_entry (take i xs)
          ++ item.entry ∷ []) told c.act.new.self) (sym c.push_reserved.ensures.items)
          (one_more g.D.Acts.sight c.args.at (each_call c.args.each) old c.loop-customer.desk
          c.act.new.self
          (map customer_entry (take i xs)) c.loop-customer.told.items item.entry c.in-Ok.rendered
          c.loop-customer.invariant.so_far (rw c.call.ensures at c.in-Ok.ensures.answer)
          (rw c.call.ensures at c.in-Ok.ensures.tables)
          c.in-Ok.ensures.sound
          (any_reason g.D.Acts.sight _ _ _ _ c.in-Ok.ensures.kept) c.in-Ok.ensures.host));
      count = omega (arith, c.push_reserved.ensures.len, c.loop-customer.invariant.count);
      room = omega (arith, c.push_reserved.ensures.capacity, c.loop-customer.invariant.room);
    }

pub returns-in-Err-clause-done : goal.returns-in-Err-clause-done
returns-in-Err-clause-done g c =
    let i = c.loop-customer.customer-index in
    let xs = c.args.customers.now in
    let item = c.customer-item.result in
    let before = c.loop-customer.invariant.so_far in
    record {
      mid = c.loop-customer.desk;
      called = map customer_entry (take i xs);
      left = item.entry ∷ map customer_entry (drop (suc i) xs);
      order = split_at customer_entry xs i item c.loop-customer-test.true c.customer-item.is;
      counted = before.counted;
      each = before.each;
      stays = before.stays;
      standing = before.standing;
      untold = before.untold;
      ends = record {
        next = item.entry;
        more = map customer_entry (drop (suc i) xs);
        is = refl;
        kept = any_reason g.D.Acts.sight _ _ _ _ c.in-Err.ensures.kept;
        host = c.in-Err.ensures.host;
        stops = rw c.call.ensures at c.in-Err.ensures.stops;
      };
    }

pub returns-clause-done : goal.returns-clause-done
returns-clause-done g c =
    let i = c.loop-customer.customer-index in
    let xs = c.args.customers.now in
    let before = c.loop-customer.invariant.so_far in
    record {
      mid = c.loop-customer.desk;
      called = map customer_entry (take i xs);
      left = [];
      order = ap (map customer_entry) (sym (take_all i xs (omega arith)))
          ∙ sym (on_end (map customer_entry (take i xs)));
      counted = before.counted;
      each = before.each;
      stays = before.stays;
      standing = before.standing;
      untold = before.untold;
      ends = (refl, refl);
    }
