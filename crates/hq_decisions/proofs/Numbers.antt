-- Notices under numbers in a row.
use Rattle.std.proofs.Common.{◌≡◌, ℕ, suc, ◌+◌, List, [], ◌∷◌, ◌++◌, length, ap, ◌∙◌, arith}
use Rattle.hq_tables.specs.declared.change.Change.TheVariants.{AddNotice}
use Rattle.hq_rules.specs.Notices.{noticed, added_from}
use Rattle.hq_rules.specs.declared.plan.Draft.{Draft}

-- one more notice gets the number behind the last
pub added_more : (host : List ℕ) (at number : ℕ) (ds : List Draft) (d : Draft) →
    added_from host at number (ds ++ d ∷ []) ≡ added_from host at number ds
    ++ AddNotice (noticed host at (number + length ds) d) ∷ []
added_more host at number [] d = ap (λ n. AddNotice (noticed host at n d) ∷ []) (omega arith)
added_more host at number (x ∷ ds) d =
    ap (λ rest. AddNotice (noticed host at number x) ∷ rest) (added_more host at (suc number) ds d)
    ∙ ap (λ n. AddNotice (noticed host at number x) ∷ added_from host at (suc number) ds
    ++ AddNotice (noticed host at n d) ∷ []) (omega arith)
