use Rattle.std.proofs.Common.{◌≡◌, ◌+◌, ◌-◌, ◌≤◌, ◌++◌, ◌∷◌, [], length, take, ap, ◌∙◌, subst}
use Rattle.std.proofs.Common.{arith, rules}
use Rattle.std.proofs.lemmas.Grind.{common_steps}
use Rattle.std.proofs.lemmas.List.{take_all}
use Rattle.sqlite.specs.Held.{state}
use Rattle.hq_sql_notices.proofs.Adding.{begun, stepped, ended}
use Rattle.hq_sql_notices.proofs.ends.put.Goals as goal

pub loop-ended-init : goal.loop-ended-init
loop-ended-init g c = record {
  number = search rules;
  added = begun (state g.S.Store c.args.conn.now) (state g.S.Store c.drop_above.new.conn)
      c.args.customer.now c.args.ends.now.at _ c.args.ends.now.ended
      c.in_ok-drop_above.ensures.kept c.in_ok-drop_above.ensures.made;
}

pub loop-ended-preserved : goal.loop-ended-preserved
loop-ended-preserved g c =
    let i = c.loop-ended.ended-index in
    let all = c.args.ends.now.ended in
    let count : c.loop-ended.number ≡ c.in-Some.before + i = c.loop-ended.invariant.number in
    let next : take (i + 1) all ≡ take i all ++ c.ended-item.result ∷ [] =
    grind (arith, common_steps) in
    record {
      number = omega arith;
      added = stepped (state g.S.Store c.args.conn.now) (state g.S.Store c.loop-ended.conn)
          c.args.customer.now c.args.ends.now.at c.in-Some.before all i
          c.loop-ended.invariant.added (state g.S.Store c.insert.new.conn)
          c.in_ok-insert.ensures.kept c.ended-item.result next (c.loop-ended.number + 1)
          (ap (λ n. n + 1) count) c.in_ok-insert.ensures.made;
    }

pub returns-clause-made : goal.returns-clause-made
returns-clause-made g c clean desk =
    let i = c.loop-ended.ended-index in
    let all = c.args.ends.now.ended in
    let last = c.args.ends.now.last in
    let before = c.in-Some.before in
    let count : c.len-count.result ≡ length all = search rules in
    let held = c.in-Some.ensures in
    let enough : length all ≤ last = subst (λ n. n ≤ last) count held.0 in
    let first : before ≡ last - length all = held.1 ∙ ap (λ n. last - n) count in
    let end : i ≡ length all = search rules in
    let whole : take i all ≡ all = take_all i all (omega arith) in
    ended (state g.S.Store c.args.conn.now) (state g.S.Store c.loop-ended.conn)
    c.args.customer.now c.args.ends.now.at before all last i first enough end whole
    c.loop-ended.invariant.added clean desk
