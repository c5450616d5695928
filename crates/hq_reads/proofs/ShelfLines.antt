-- A whole lookup among one customer's lines on a shelf.
use Rattle.std.proofs.Common.{◌≡◌, ℕ, false, List, Result, refl, ap, ◌∙◌, subst}
use Rattle.hq_values.specs.declared.failure.Fault.{Fault}
use Rattle.hq_rules.specs.Lookups.{Found, Looks, first_match}
use Rattle.hq_kept.specs.declared.pattern.Class.{Class}
use Rattle.hq_tables.specs.Shelves.{Sight, Finds, Keeps}
use Rattle.hq_reads.specs.Memory.{with_memory}
use Rattle.hq_reads.specs.ShelfLines.{asks_shelf}
use Rattle.hq_reads.specs.declared.customer_lines.CustomerLines.{CustomerLines}
use Rattle.hq_reads.proofs.Reading.{looked}

pub shelf_looked : {S : Type 0} (refused : Type 0) (sight : Sight S) (class : Class) (keys : List
    (List ℕ))
    (old : CustomerLines S) (result : Result Found Fault) (new : CustomerLines S) →
    Looks refused (asks_shelf sight) class keys old result new → sight.is_closed old.shelf.now ≡
    false
    → (new.shelf.ghost_name ≡ old.shelf.ghost_name)
    × Keeps (with_memory refused sight) old.shelf.now new.shelf.now result
    × Finds sight old.shelf.now new.shelf.now result old.customer.now
    (λ rows. first_match (rows.line class) keys)
shelf_looked refused sight class keys old result new looks opened =
    let name = old.customer.now in
    let this = looked refused sight (λ lines. lines.shelf.now) name class
    (λ lines. (lines.shelf.ghost_name ≡ old.shelf.ghost_name) × (lines.customer.now ≡ name))
    (asks_shelf sight)
    (λ from to key answer of got. (
      (got.0 ∙ of.0, ap (λ b. b.now) got.1 ∙ of.1),
      got.2,
      subst (λ n. Finds sight from.shelf.now to.shelf.now answer n (λ rows. rows.line class key))
          of.1 got.3,
    ))
    keys old result new looks (refl, refl) opened in
    (this.0.0, this.1, this.2)
