-- The recipients of a message after an attempt: none is lost, and those that are left are still
-- apart.
use Rattle.std.proofs.Common.{◌≡◌, ℕ, suc, ◌+◌, false, cond, List, [], ◌∷◌, map, length, refl, Some}
use Rattle.std.proofs.Common.{None, Option, arith}
use Rattle.std.specs.List.{IsDistinct, AllByRecursion, cons_option}
use Rattle.std.proofs.lemmas.List.Sums.{sum_by-cons}
use Rattle.hq_rules.specs.Attempts.{outcome_of, left_with, left_by, told_with, told_by}
use Rattle.hq_rules.specs.Attempts.{delivered_with, is_delivered, left, failed, delivered}
use Rattle.hq_kept.specs.declared.message.Pending.{Pending}
use Rattle.hq_kept.specs.declared.outcome.Delivery.{Delivery}
use Rattle.hq_kept.specs.declared.outcome.Delivery.TheVariants as delivery
use Rattle.hq_kept.specs.declared.outcome.Outcome.{Outcome}
use Rattle.hq_kept.specs.declared.outcome.Told.{Told}
use Rattle.hq_tables.specs.Sound.{AreApart, same_address}

-- the address of a recipient
abbrev address : Pending → List ℕ
address p = p.address

-- an outcome leaves a recipient pending, or it is delivered, or it failed: one of the three
by_delivery : (p : Pending) (kept : List Pending) (gave : ℕ) (told : List Told) (d : Delivery) →
    length (cons_option (left_by p d) kept) + (cond (is_delivered d) 1 0 + gave + length
    (cons_option (told_by p d) told)) ≡ suc (length kept + (gave + length told))
by_delivery p kept gave told (delivery.Delivered status text) = omega arith
by_delivery p kept gave told (delivery.Deferred status text) = omega arith
by_delivery p kept gave told (delivery.Failed status text) = omega arith

-- and a recipient that no outcome names stays pending
by_outcome : (p : Pending) (kept : List Pending) (gave : ℕ) (told : List Told) (o : Option Outcome)
    → length (cons_option (left_with p o) kept) +
    (cond (delivered_with o) 1 0 + gave + length (cons_option (told_with p o) told)) ≡ suc
    (length kept + (gave + length told))
by_outcome p kept gave told None = omega arith
by_outcome p kept gave told (Some o) = by_delivery p kept gave told o.result

-- each recipient is left, delivered or failed
pub none_lost : (os : List Outcome) (ps : List Pending) →
    length (left os ps) + (delivered os ps + length (failed os ps)) ≡ length ps
none_lost os [] = refl
none_lost os (p ∷ ps) =
    let one = by_outcome p (left os ps) (delivered os ps) (failed os ps) (outcome_of os p) in
    let cons = sum_by-cons (λ (x : Pending). cond (delivered_with (outcome_of os x)) 1 0) p ps in
    let rest = none_lost os ps in
    omega arith

-- ---- apart

-- what is true of the address of one recipient, and of those that are left of the rest, is true of
-- those that are left
all_delivery : (P : List ℕ → Type 0) (p : Pending) (kept : List Pending) (d : Delivery) →
    P p.address → AllByRecursion P (map address kept) →
    AllByRecursion P (map address (cons_option (left_by p d) kept))
all_delivery P p kept (delivery.Delivered status text) here rest = rest
all_delivery P p kept (delivery.Deferred status text) here rest = (here, rest)
all_delivery P p kept (delivery.Failed status text) here rest = rest

-- so it is where the recipient has an outcome or none
all_outcome : (P : List ℕ → Type 0) (p : Pending) (kept : List Pending) (o : Option Outcome) →
    P p.address → AllByRecursion P (map address kept) →
    AllByRecursion P (map address (cons_option (left_with p o) kept))
all_outcome P p kept None here rest = (here, rest)
all_outcome P p kept (Some o) here rest = all_delivery P p kept o.result here rest

-- and of those that are left of all
all_left : (P : List ℕ → Type 0) (os : List Outcome) (ps : List Pending) →
    AllByRecursion P (map address ps) → AllByRecursion P (map address (left os ps))
all_left P os [] h = h
all_left P os (p ∷ ps) h = all_outcome P p (left os ps) (outcome_of os p) h.0 (all_left P os ps h.1)

-- a recipient that is left is apart from the others, as it was
apart_delivery : (p : Pending) (kept : List Pending) (d : Delivery) →
    AllByRecursion (λ y. same_address p.address y ≡ false) (map address kept) → AreApart kept →
    AreApart (cons_option (left_by p d) kept)
unfolding IsDistinct
apart_delivery p kept (delivery.Delivered status text) here rest = rest
apart_delivery p kept (delivery.Deferred status text) here rest = (here, rest)
apart_delivery p kept (delivery.Failed status text) here rest = rest

-- so it is where it has an outcome or none
apart_outcome : (p : Pending) (kept : List Pending) (o : Option Outcome) →
    AllByRecursion (λ y. same_address p.address y ≡ false) (map address kept) → AreApart kept →
    AreApart (cons_option (left_with p o) kept)
unfolding IsDistinct
apart_outcome p kept None here rest = (here, rest)
apart_outcome p kept (Some o) here rest = apart_delivery p kept o.result here rest

-- those that are left are apart
pub left_apart : (os : List Outcome) (ps : List Pending) → AreApart ps → AreApart (left os ps)
unfolding IsDistinct
left_apart os [] h = h
left_apart os (p ∷ ps) h = apart_outcome p (left os ps) (outcome_of os p)
    (all_left (λ y. same_address p.address y ≡ false) os ps h.0) (left_apart os ps h.1)
