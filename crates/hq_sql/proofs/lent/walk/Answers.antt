use Rattle.std.proofs.Common.{◌∙◌, rules, sym}
use Rattle.sqlite.specs.State.{HasCleanDisk}
use Rattle.sqlite.specs.Values.{bound}
use Rattle.sqlite.specs.Held.{state}
use Rattle.hq_sql.specs.Lent.{TakesAll}
use Rattle.hq_sql.proofs.Keeping.{query_failed}
use Rattle.hq_sql.proofs.Walking.{went_on, all_taken}
use Rattle.hq_sql.proofs.lent.walk.Goals as goal

pub returns-in_err-rows-clause-kept : goal.returns-in_err-rows-clause-kept
returns-in_err-rows-clause-kept g c query =
    let refused = rw c.in_err-rows.was at c.query.follows.holds-at-none in
    query_failed _ _ c.args.sql.now (bound c.args.params.now) query.plain refused.survives _ _
    c.from_residual.ensures.0 refused.err

pub returns-in-None-clause-found : goal.returns-in-None-clause-found
returns-in-None-clause-found g c query clean desk =
    let now = c.advance.new.rows.conn.now in
    let late : HasCleanDisk (state g.S.Store now) = search rules in
    let all : TakesAll g.T.Taker.takes c.args.sql.now (bound c.args.params.now)
    (state g.S.Store c.args.conn.now) (state g.S.Store now) c.args.taker c.rows.taker =
    all_taken g.S.Store g.T.Taker.takes c.args.sql.now (bound c.args.params.now)
    (state g.S.Store c.args.conn.now) c.rows.rows.conn.now c.args.taker c.rows.taker
    c.rows.invariant.walks now c.in_ok-advance.ensures.survives
    (λ clean. rw (sym (rw c.in-None.is at c.get.ensures)) at
    (c.in_ok-advance.ensures.ok clean)) query late desk in
    search rules

pub rows-preserved : goal.rows-preserved
rows-preserved g c = record {
  same_reference = c.in_ok-advance.ensures.same_reference ∙ c.rows.invariant.same_reference;
  walks =
      went_on g.S.Store g.T.Taker.takes c.args.sql.now (bound c.args.params.now)
      (state g.S.Store c.args.conn.now) c.rows.rows.conn.now c.args.taker c.rows.taker
      c.rows.invariant.walks c.advance.new.rows.conn.now c.in_ok-advance.ensures.survives
      c.in-Some.row.now c.take.new.self
      (λ clean. rw (sym (rw c.in-Some.is at c.get.ensures)) at
      (c.in_ok-advance.ensures.ok clean))
      (λ clean. c.in_ok-advance.ensures.same clean) c.in_ok-take-in-Some.ensures.took;
}
