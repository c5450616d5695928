use Rattle.std.proofs.Common.{◌≡◌, ℕ, ◌≤◌, sym, ◌∙◌, subst, arith}
use Rattle.sqlite.specs.Tree.{Trees}
use Rattle.hq_sql_across.proofs.Found.{on_ok}
use Rattle.hq_sql_across.proofs.sessions.reopened.Goals as goal

no_less : (m n : ℕ) → m ≤ n → n ≡ 0 → m ≡ 0
no_less m n le none = omega (arith, le, none)

pub returns-in-Ok-clause-found : goal.returns-in-Ok-clause-found
returns-in-Ok-clause-found g c clean =
    let store = c.crash_and_reopen.new.self in
    let answered = sym c.is_err.ensures.value ∙ c.if-is_err.false in
    let result = c.crash_and_reopen.result in
    let found = on_ok result answered c.crash_and_reopen.ensures.found
    (no_less _ _ c.in-Ok.ensures.clean clean) in
    let fresh = on_ok result answered c.crash_and_reopen.ensures.fresh in
    let trees : Trees = (g.S.Store.view store).committed in
    let opened = c.in-Ok.ensures.opens clean in
    record {
      left = subst (λ (t : Trees). g.S.Store.recovers c.args.conn.store t)
          (sym (c.in-Ok.ensures.trees clean ∙ fresh.clean))
          (c.into_store-store.ensures.quiet.outcomes trees found);
      opens = opened.0;
      live = opened.1;
    }
