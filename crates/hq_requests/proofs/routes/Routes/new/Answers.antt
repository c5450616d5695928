use Rattle.std.proofs.Common.{map, ap, ◌∙◌}
use Rattle.std.proofs.lemmas.Result.{err_from_is_err_and}
use Rattle.matchit.specs.Router.{rename}
use Rattle.hq_requests.specs.Adding.{added_all, can_add_all}
use Rattle.hq_requests.specs.declared.table.TheConstants.{TABLE}
use Rattle.hq_requests.proofs.Entered.{rows_are, can_add_paths}
use Rattle.hq_requests.proofs.routes.Routes.new.Goals as goal

pub invariant_of-result : goal.invariant_of-result
invariant_of-result g c =
    let empty = c.no_paths-router.ensures.empty in
    record {
      whole = ap (rename (λ e. e.value)) (c.in_ok-add_all.ensures.added
          ∙ ap (added_all (map (λ e. (e.0.now, e.1)) TABLE)) empty) ∙ rows_are;
    }

pub returns-in_err-add_all : goal.returns-in_err-add_all
returns-in_err-add_all g c =
    let q = err_from_is_err_and c.from_residual.result c.from_residual.ensures.1 in
    let empty = c.no_paths-router.ensures.empty in
    rw (q.1, q.2) (c.in_err-add_all.ensures.fault (ap
    (can_add_all (map (λ e. (e.0.now, e.1)) TABLE)) empty ∙ can_add_paths))
