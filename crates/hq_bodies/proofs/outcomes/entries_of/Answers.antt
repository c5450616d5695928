use Rattle.std.proofs.Common.{◌≡◌, ◌+◌, ◌++◌, ◌∷◌, [], List, Result, Ok, Err, refl, sym, ap, ◌∙◌}
use Rattle.std.proofs.Common.{rules}
use Rattle.std.proofs.Common.{drop, drop-cons, append_assoc}
use Rattle.serde_json.specs.View.{items_view}
use Rattle.hq_values.specs.Readers.{◌>>=◌}
use Rattle.hq_values.specs.declared.failure.Refusal.{Refusal}
use Rattle.hq_bodies.specs.Outcomes.{entries_of}
use Rattle.hq_bodies.specs.declared.outcomes.OutcomeTexts.{OutcomeTexts}
use Rattle.hq_bodies.proofs.outcomes.entries_of.Goals as goal

one_more : (xs : List OutcomeTexts) (x : OutcomeTexts) (r : Result (List OutcomeTexts) Refusal) →
    (r >>= (λ rest. Ok ((xs ++ (x ∷ [])) ++ rest))) ≡
    ((r >>= (λ rest. Ok (x ∷ rest))) >>= (λ rest. Ok (xs ++ rest)))
one_more xs x (Ok rest) = ap Ok (append_assoc xs (x ∷ []) rest)
one_more xs x (Err e) = refl

pub loop-value-preserved : goal.loop-value-preserved
unfolding entries_of
loop-value-preserved g c =
    let xs = c.loop-value.entries.items in
    let entry = c.in_ok-entry.entry in
    let left = entries_of (items_view (drop (c.loop-value.value-index + 1) c.args.values.now)) in
    let step : entries_of (items_view (drop c.loop-value.value-index c.args.values.now)) ≡
    (left >>= (λ rest. Ok (entry ∷ rest))) = search (
      rules,
      drop-cons c.args.values.now
          c.loop-value.value-index c.value-item.result c.loop-value-test.true,
    ) in
    let pushed : c.push.new.to.items ≡ xs ++ (entry ∷ []) = search rules in
    ap (λ ys. left >>= (λ rest. Ok (ys ++ rest))) pushed ∙ one_more xs entry left
    ∙ ap (λ r. r >>= (λ rest. Ok (xs ++ rest))) (sym step) ∙ c.loop-value.invariant
