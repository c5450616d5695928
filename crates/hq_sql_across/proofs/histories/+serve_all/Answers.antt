use Rattle.std.proofs.Common.{◌≡◌, ◌∷◌, ◌-◌, false, true, [], List, map, length}
use Rattle.std.proofs.Common.{take, drop, sym, ◌∙◌, subst, append-nil, arith}
use Rattle.std.proofs.lemmas.List.{nil_from_length}
use Rattle.std.specs.List.{AllZip}
use Rattle.sqlite.specs.Held.{state}
use Rattle.hq_values.specs.declared.host.Host.{Host}
use Rattle.hq_requests.specs.declared.exchanges.Exchange.{Exchange}
use Rattle.hq_sql_across.specs.Stopped.{PassesSession, PassesSessions}
use Rattle.hq_sql_across.specs.Visits.{visit_of, replies_in, CarryCustomers}
use Rattle.hq_sql_across.specs.declared.histories.Visit.{Visit}
use Rattle.hq_sql_across.proofs.Passing.{first_and_rest, no_sessions, session_then, told_more}
use Rattle.hq_sql_across.proofs.histories.+serve_all.Goals as goal
use Rattle.hq_sql_across.proofs.histories.+serve_all.Goals.{then-one, else-one}

pub returns-in-empty-clause-passed : goal.returns-in-empty-clause-passed
returns-in-empty-clause-passed g t c clean sure =
    let before = (state g.S.Store c.args.conn).may_leave in
    let none = nil_from_length c.args.visits.now (omega (arith, c.in-empty.len_below)) in (
      [],
      sym (append-nil (map replies_in c.args.told.now.items)),
      subst (λ (xs : List Visit). PassesSessions c.args.host.now (map visit_of xs) [] before before)
          (sym none) (no_sessions c.args.host.now before),
    )

pub returns-in-empty-clause-customers : goal.returns-in-empty-clause-customers
returns-in-empty-clause-customers g t c =
    let none = nil_from_length c.args.visits.now (omega (arith, c.in-empty.len_below)) in (
      [],
      sym (append-nil (map replies_in c.args.told.now.items)),
      subst (λ (xs : List Visit). AllZip CarryCustomers (map visit_of xs) []) (sym none) tt,
    )

pub returns-after-one-clause-customers : goal.returns-after-one-clause-customers
returns-after-one-clause-customers g t c =
    let visit = c.first-item.result in
    let one = c.in_ok-one-in-len1-up.one in
    let rest = c.in_ok-later-in-len1-up.ensures.customers in
    let first : CarryCustomers (visit_of visit) one.replies.items =
    subst (λ (xs : List Exchange). CarryCustomers
    (record { directory = visit.directory; exchanges = xs }) one.replies.items)
    c.as_slice-exchanges.ensures.value c.in_ok-one-in-len1-up.ensures.customers in (
      one.replies.items ∷ rest.0,
      told_more replies_in c.args.told.now.items c.push.new.self.items c.serve_all.new.told.items
          one.replies rest.0 c.in_ok-push-in-len1-up.ensures.items rest.1,
      subst (λ (xs : List Visit). AllZip CarryCustomers (map visit_of xs)
          (one.replies.items ∷ rest.0))
          (sym (first_and_rest c.args.visits.now visit c.in-len1-up.len_at_least c.first-item.is))
          (first, rest.2),
    )

pub returns-after-one-clause-passed : goal.returns-after-one-clause-passed
returns-after-one-clause-passed g t c clean sure =
    let host = c.args.host.now in
    let visit = c.first-item.result in
    let d = visit.directory in
    let one = c.in_ok-one-in-len1-up.one in
    let later = c.in_ok-later-in-len1-up.later in
    let surely : (one.in_doubt ≡ false) × (later ≡ false) = elim c.if-one.branch [
      | then-one w ↦ absurd (let no : true ≡ false = sym w.if-one.true ∙ sym w.result-is ∙ sure in
          cc)
      | else-one w ↦ (w.if-one.false, sym w.result-is ∙ sure)
    ] in
    let before = (state g.S.Store c.args.conn).may_leave in
    let mid = (state g.S.Store one.conn).may_leave in
    let after = (state g.S.Store c.in_ok-later-in-len1-up.conn).may_leave in
    let rest = c.in_ok-later-in-len1-up.ensures.passed clean surely.1 in
    let first : PassesSession host d visit.exchanges.items one.replies.items before mid =
    subst (λ (h : Host). PassesSession h d visit.exchanges.items one.replies.items before mid)
    c.in_ok-name-in-len1-up.ensures
    (subst (λ (xs : List Exchange). PassesSession c.in_ok-name-in-len1-up.name d xs
    one.replies.items before mid) c.as_slice-exchanges.ensures.value
    (c.in_ok-one-in-len1-up.ensures.passed
    (c.in_ok-later-in-len1-up.ensures.quiet clean surely.1) surely.0)) in (
      one.replies.items ∷ rest.0,
      told_more replies_in c.args.told.now.items c.push.new.self.items c.serve_all.new.told.items
          one.replies rest.0 c.in_ok-push-in-len1-up.ensures.items rest.1,
      subst (λ (xs : List Visit). PassesSessions host (map visit_of xs)
          (one.replies.items ∷ rest.0) before after)
          (sym (first_and_rest c.args.visits.now visit c.in-len1-up.len_at_least c.first-item.is))
          (session_then host (visit_of visit) one.replies.items
          (map visit_of (take (length c.args.visits.now - 1) (drop 1 c.args.visits.now)))
          rest.0 before mid after first rest.2),
    )
