use Rattle.std.proofs.Common.{◌≡◌, ℕ, Bool, true, false, ◌&&◌, List, length, Some, None, refl, sym}
use Rattle.std.proofs.Common.{ap, ◌∙◌, eqb}
use Rattle.hq_values.specs.Addresses.{is_local, parts_of}
use Rattle.hq_values.proofs.Parts.{parts_from_rsplit}
use Rattle.hq_kept.specs.Patterns.{is_local_alone, is_user}
use Rattle.hq_kept.proofs.pattern.is_user.Goals as goal

user_is : (text local domain : List ℕ) (l e : Bool) → parts_of text ≡ Some (local, domain) →
    l ≡ is_local local → e ≡ eqb (length domain) 0 → (l && e) ≡ is_user text
user_is text local domain l e parts is_l is_e = ap (λ b. b && e) is_l
    ∙ ap (λ b. is_local local && b) is_e ∙ sym (ap is_local_alone parts)

pub returns-then-is_local : goal.returns-then-is_local
returns-then-is_local c =
    let parts = parts_from_rsplit c.args.text.now (Some (c.in-Some.local, c.in-Some.domain))
    c.in-Some.ensures.cases in
    user_is c.args.text.now c.in-Some.local.now c.in-Some.domain.now true c.is_empty.result parts
    (sym c.if-is_local.true ∙ c.is_local.ensures ∙ ap is_local c.as_bytes.ensures.value)
    c.is_empty.ensures

pub returns-else-is_local : goal.returns-else-is_local
returns-else-is_local c =
    let parts = parts_from_rsplit c.args.text.now (Some (c.in-Some.local, c.in-Some.domain))
    c.in-Some.ensures.cases in
    c.if-is_local.false ∙ user_is c.args.text.now c.in-Some.local.now c.in-Some.domain.now false
    (eqb (length c.in-Some.domain.now) 0) parts (sym c.if-is_local.false ∙ c.is_local.ensures
    ∙ ap is_local c.as_bytes.ensures.value) refl

pub returns-in-None : goal.returns-in-None
returns-in-None c = sym
    (ap is_local_alone (parts_from_rsplit c.args.text.now None c.in-None.ensures.cases))
