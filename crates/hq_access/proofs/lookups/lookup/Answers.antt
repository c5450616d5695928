use Rattle.std.proofs.Common.{◌++◌, [], ◌∷◌, Option, Some, Result, Ok, Err, refl, sym, ap, ◌∙◌}
use Rattle.std.proofs.Common.{subst, append_assoc}
use Rattle.std.proofs.lemmas.Result.{err_from_is_err_and}
use Rattle.hq_values.specs.declared.failure.Fault.{Fault}
use Rattle.hq_kept.specs.Keys.{keys_of}
use Rattle.hq_kept.specs.declared.action.Action.{Action}
use Rattle.hq_access.proofs.Asking.{looks_until, looks_through, looks_found, looks_keep}
use Rattle.hq_access.proofs.Asking.{passes_more}
use Rattle.hq_access.proofs.lookups.lookup.Goals as goal

pub loop-key-init : goal.loop-key-init
loop-key-init g c =
    record {
      passed = refl;
      left = c.into_iter-key-iterator.ensures.into_iter_gives.0
          ∙ c.in_ok-key-items.ensures;
    }

pub loop-key-preserved : goal.loop-key-preserved
loop-key-preserved g c =
    let got = subst (λ (r : Result (Option Action) Fault). g.L.Lines.gets c.loop-key.lines
    c.args.class c.in-Some.key r c.get.new.self) (c.in_ok-action.was ∙ ap Ok c.in_default.is)
    c.get.ensures in
    record {
      passed = passes_more g.L.Lines.gets c.args.class c.loop-key.yielded c.in-Some.key
          c.args.lines.now c.loop-key.lines c.get.new.self c.loop-key.invariant.passed got;
      left = append_assoc c.loop-key.yielded (c.in-Some.key ∷ []) c.next.new.self.rest.items
          ∙ sym (ap (λ ks. c.loop-key.yielded ++ ks) c.in-Some.ensures.steps.0)
          ∙ c.loop-key.invariant.left;
    }

pub returns-in_err-action-clause-asked : goal.returns-in_err-action-clause-asked
returns-in_err-action-clause-asked g c =
    let fault =
    err_from_is_err_and c.from_residual-in_err-action.result
    c.from_residual-in_err-action.ensures.1 in
    looks_until g.L.Lines.gets c.args.class (keys_of c.args.who.now) c.loop-key.yielded
    c.next.new.self.rest.items c.in-Some.key (Err c.in_err-action.field-0.0) c.args.lines.now
    c.loop-key.lines c.from_residual-in_err-action.result c.get.new.self
    (sym (ap (λ ks. c.loop-key.yielded ++ ks) c.in-Some.ensures.steps.0)
    ∙ c.loop-key.invariant.left) c.loop-key.invariant.passed c.in_err-action.ensures (
      fault.1
          ∙ ap Err fault.2,
      refl,
    )

pub returns-in-Some-2-clause-asked : goal.returns-in-Some-2-clause-asked
returns-in-Some-2-clause-asked g c =
    let got = subst (λ (r : Result (Option Action) Fault). g.L.Lines.gets c.loop-key.lines
    c.args.class c.in-Some.key r c.get.new.self) (c.in_ok-action.was ∙ ap Ok c.in-Some-2.is)
    c.get.ensures in
    looks_until g.L.Lines.gets c.args.class (keys_of c.args.who.now) c.loop-key.yielded
    c.next.new.self.rest.items c.in-Some.key (Ok (Some c.in-Some-2.action)) c.args.lines.now
    c.loop-key.lines _ c.get.new.self (sym (ap (λ ks. c.loop-key.yielded ++ ks)
    c.in-Some.ensures.steps.0) ∙ c.loop-key.invariant.left) c.loop-key.invariant.passed got
    (refl, refl)

pub returns-in-Some-2-clause-found : goal.returns-in-Some-2-clause-found
returns-in-Some-2-clause-found g c = λ table tells. looks_found g.L.Lines.gets c.args.class table
    tells (keys_of c.args.who.now) c.args.lines.now _ c.get.new.self
    (returns-in-Some-2-clause-asked g c)

pub returns-in-Some-2-clause-same : goal.returns-in-Some-2-clause-same
returns-in-Some-2-clause-same g c = λ table tells. looks_keep g.L.Lines.gets c.args.class table
    tells (keys_of c.args.who.now) c.args.lines.now _ c.get.new.self
    (returns-in-Some-2-clause-asked g c)

pub returns-clause-asked : goal.returns-clause-asked
returns-clause-asked g c =
    looks_through g.L.Lines.gets c.args.class (keys_of c.args.who.now) c.loop-key.yielded
    c.loop-key.key-iterator.rest.items c.args.lines.now c.loop-key.lines c.loop-key.invariant.left
    (sym c.in-None.ensures.steps.0 ∙ c.loop-key.key-iterator.rest.ok.0) c.loop-key.invariant.passed

pub returns-clause-found : goal.returns-clause-found
returns-clause-found g c = λ table tells. looks_found g.L.Lines.gets c.args.class table tells
    (keys_of c.args.who.now) c.args.lines.now _ c.loop-key.lines (returns-clause-asked g c)

pub returns-clause-same : goal.returns-clause-same
returns-clause-same g c = λ table tells. looks_keep g.L.Lines.gets c.args.class table tells
    (keys_of c.args.who.now) c.args.lines.now _ c.loop-key.lines (returns-clause-asked g c)
