-- Keys that are asked for one after another.
use Rattle.std.proofs.Common.{◌≡◌, ℕ, List, [], ◌∷◌, ◌++◌, Option, Some, None, length, Result, Ok}
use Rattle.std.proofs.Common.{Err, IfOk, OnOk, refl, arith, sym, ap, ◌∙◌, subst, inl, inr}
use Rattle.hq_values.specs.declared.failure.Fault.{Fault}
use Rattle.hq_kept.specs.declared.action.Action.{Action}
use Rattle.hq_kept.specs.declared.pattern.Class.{Class}
use Rattle.hq_rules.specs.Lookups.{Found, Gets, AsksOn, LooksUp, Looks, TellsLines, first_match}
use Rattle.hq_rules.specs.Lookups.{or_next}

module _ {S : Type 0} (gets : Gets S) (class : Class) where
  -- the keys were asked for, and none had a line
  abbrev pub Passes : List (List ℕ) → S → S → Type 0
  Passes [] old new = new ≡ old
  Passes (key ∷ keys) old new = (mid : S) × gets old class key (Ok None) mid × Passes keys mid new

  -- one more that had none
  pub passes_more : (keys : List (List ℕ)) (key : List ℕ) (old mid new : S) → Passes keys old mid →
      gets mid class key (Ok None) new → Passes (keys ++ key ∷ []) old new
  passes_more [] key old mid new passed asked = (
    new,
    subst (λ s. gets s class key (Ok None) new) passed asked,
    refl,
  )
  passes_more (k ∷ keys) key old mid new passed asked =
      (passed.0, passed.1, passes_more keys key passed.0 mid new passed.2 asked)

  -- the keys that had none, and then the others
  pub asks_after : (keys more : List (List ℕ)) (old mid : S) (result : Result Found Fault) (new : S)
      → Passes keys old mid → LooksUp gets class more mid result new →
      LooksUp gets class (keys ++ more) old result new
  asks_after [] more old mid result new passed asked =
      subst (λ s. LooksUp gets class more s result new) passed asked
  asks_after (k ∷ keys) more old mid result new passed asked =
      (Ok None, passed.0, passed.1, asks_after keys more passed.0 mid result new passed.2 asked)

  module _ (lines : S → Class → List ℕ → Option Action) (tells : TellsLines gets lines) where
    -- where asking tells the lines and leaves them, what is found is the first match
    asks_found : (keys : List (List ℕ)) (old : S) (result : Result Found Fault) (new : S) →
        LooksUp gets class keys old result new →
        IfOk result (λ found. found ≡ first_match (lines old class) keys)
    asks_found [] old result new asked = subst (λ r. IfOk r (λ found. found ≡ None)) (sym asked.0)
        refl
    asks_found (key ∷ keys) old result new asked =
        by asked.0 asked.1 asked.2 asked.3 (λ mid rest. asks_found keys mid result new rest) where
          by : (answer : Result (Option Action) Fault) (mid : S) → gets old class key answer mid →
              AsksOn (LooksUp gets class keys) key answer mid result new →
              ((mid : S) → LooksUp gets class keys mid result new →
              IfOk result (λ found. found ≡ first_match (lines mid class) keys)) →
              IfOk result (λ found. found ≡ or_next key (lines old class key)
              (first_match (lines old class) keys))
          by (Err fault) mid got goes further = subst (λ r. IfOk r
              (λ found. found ≡ or_next key (lines old class key)
              (first_match (lines old class) keys)))
              (sym goes.0) tt
          by (Ok (Some action)) mid got goes further =
              subst (λ r. IfOk r (λ found. found ≡ or_next key (lines old class key)
              (first_match (lines old class) keys))) (sym goes.0)
              (ap (λ line. or_next key line (first_match (lines old class) keys))
              (tells old mid class key (Some action) got).0)
          by (Ok None) mid got goes further =
              let told = tells old mid class key None got in
              subst (λ (f : Found). IfOk result (λ found. found ≡ f))
              (ap (λ (t : Class → List ℕ → Option Action). first_match (t class) keys) told.1
              ∙ ap (λ line. or_next key line (first_match (lines old class) keys)) told.0)
              (further mid goes)

    asks_keep : (keys : List (List ℕ)) (old : S) (result : Result Found Fault) (new : S) →
        LooksUp gets class keys old result new → OnOk result (lines new ≡ lines old)
    asks_keep [] old result new asked = subst (λ r. OnOk r (lines new ≡ lines old)) (sym asked.0)
        (ap lines asked.1)
    asks_keep (key ∷ keys) old result new asked =
        by asked.0 asked.1 asked.2 asked.3 (λ mid rest. asks_keep keys mid result new rest) where
          by : (answer : Result (Option Action) Fault) (mid : S) → gets old class key answer mid →
              AsksOn (LooksUp gets class keys) key answer mid result new →
              ((mid : S) → LooksUp gets class keys mid result new →
              OnOk result (lines new ≡ lines mid)) →
              OnOk result (lines new ≡ lines old)
          by (Err fault) mid got goes further = subst (λ r. OnOk r (lines new ≡ lines old))
              (sym goes.0)
              tt
          by (Ok (Some action)) mid got goes further =
              subst (λ r. OnOk r (lines new ≡ lines old)) (sym goes.0) (ap lines goes.1
              ∙ (tells old mid class key (Some action) got).1)
          by (Ok None) mid got goes further = subst
              (λ (t : Class → List ℕ → Option Action). OnOk result
              (lines new ≡ t)) (tells old mid class key None got).1 (further mid goes)

    pub looks_found : {refused : Type 0} (keys : List (List ℕ)) (old : S)
        (result : Result Found Fault) (new : S) → Looks refused gets class keys old result new →
        IfOk result (λ found. found ≡ first_match (lines old class) keys)
    looks_found keys old result new (inl want) = subst
        (λ r. IfOk r (λ found. found ≡ first_match (lines old class) keys)) (sym want.0) tt
    looks_found keys old result new (inr asked) = asks_found keys old result new asked

    pub looks_keep : {refused : Type 0} (keys : List (List ℕ)) (old : S)
        (result : Result Found Fault) (new : S) →
        Looks refused gets class keys old result new → OnOk result (lines new ≡ lines old)
    looks_keep keys old result new (inl want) = subst (λ r. OnOk r (lines new ≡ lines old))
        (sym want.0) tt
    looks_keep keys old result new (inr asked) = asks_keep keys old result new asked

  -- a key with a line or a fault, after keys that had none
  pub looks_until : {refused : Type 0} (keys seen rest : List (List ℕ)) (key : List ℕ)
      (answer : Result (Option Action) Fault) (old mid : S) (result : Result Found Fault) (new : S)
      → seen ++ key ∷ rest ≡ keys → Passes seen old mid → gets mid class key answer new →
      AsksOn (LooksUp gets class rest) key answer new result new
      → Looks refused gets class keys old result new
  looks_until keys seen rest key answer old mid result new all passed got goes =
      inr (subst (λ (ks : List (List ℕ)). LooksUp gets class ks old result new) all
      (asks_after seen (key ∷ rest) old mid result new passed (answer, new, got, goes)))

  -- all keys had none
  pub looks_through : {refused : Type 0} (keys seen rest : List (List ℕ)) (old new : S) →
      seen ++ rest ≡ keys → 0 ≡ length rest → Passes seen old new →
      Looks refused gets class keys old (Ok None) new
  looks_through keys seen [] old new all none passed =
      inr (subst (λ (ks : List (List ℕ)). LooksUp gets class ks old (Ok None) new) all
      (asks_after seen [] old new (Ok None) new passed (refl, refl)))
  looks_through keys seen (key ∷ rest) old new all none passed = let no : ⊥ = omega arith in
      absurd no
