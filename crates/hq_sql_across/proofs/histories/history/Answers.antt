use Rattle.std.proofs.Common.{◌≡◌, ◌++◌, List, Vec, Global, map, sym, ap, ◌∙◌, subst}
use Rattle.std.specs.List.{AllZip}
use Rattle.sqlite.specs.Held.{state}
use Rattle.hq_requests.specs.declared.reply.Reply.{Reply}
use Rattle.hq_sql_across.specs.Stopped.{PassesSessions}
use Rattle.hq_sql_across.specs.Visits.{visit_of, replies_in, CarryCustomers}
use Rattle.hq_sql_across.proofs.Passing.{alone_in_history}
use Rattle.hq_sql_across.proofs.histories.history.Goals as goal

pub returns : goal.returns
returns g c = record {
  across = λ clean sure.
      let host = c.args.host.now in
      let visits = map visit_of c.args.visits.now in
      let before = (state g.S.Store c.args.conn).may_leave in
      let after = (state g.S.Store c.in_ok-in_doubt.conn).may_leave in
      let all = c.in_ok-in_doubt.ensures.passed clean sure in
      let told : map replies_in c.serve_all.new.told.items ≡ all.0 = all.1
      ∙ ap (λ (xs : List (Vec Reply Global)). map replies_in xs ++ all.0)
      c.in_ok-replies.ensures.items in
      alone_in_history host visits (map replies_in c.serve_all.new.told.items) before after
      (subst (λ (rs : List (List Reply)). PassesSessions host visits rs before after) (sym told)
      all.2);
  customers =
      let all = c.in_ok-in_doubt.ensures.customers in
      let told : map replies_in c.serve_all.new.told.items ≡ all.0 = all.1
      ∙ ap (λ (xs : List (Vec Reply Global)). map replies_in xs ++ all.0)
      c.in_ok-replies.ensures.items in
      subst (λ (rs : List (List Reply)). AllZip CarryCustomers (map visit_of c.args.visits.now) rs)
      (sym told) all.2;
}
