-- One more recipient, and what was found for it.
use Rattle.std.proofs.Common.{◌≡◌, ℕ, ◌+◌, ◌<◌, not, ◌||◌, List, [], ◌∷◌, ◌++◌, length, get_or}
use Rattle.std.proofs.Common.{take, map, Option, Some, None, refl, sym, ap, ◌∙◌, append-nil, Bor}
use Rattle.std.specs.Prelude.{if◌then◌else◌, option_map}
use Rattle.std.specs.Option.{option_or}
use Rattle.std.specs.List.{cons_option, filter_map, last_or, list_any}
use Rattle.std.proofs.lemmas.List.{take_more, map-append}
use Rattle.std.proofs.lemmas.List.Elements.{filter-append, filter_map-append}
use Rattle.hq_kept.specs.declared.action.Action.{Action}
use Rattle.hq_kept.specs.declared.action.Action.TheVariants.{Okay, Reject, Defer, Dunno, Discard}
use Rattle.hq_kept.specs.declared.action.Action.TheVariants.{Hold, Redirect}
use Rattle.hq_rules.specs.declared.verdict.Refused.{Refused}
use Rattle.hq_rules.specs.Verdicts.{refuses, discards, redirection, holding, refused_one}
use Rattle.hq_rules.specs.Verdicts.{refused_in, not_refused, found_in, first_of, redirect_of}
use Rattle.hq_rules.specs.Verdicts.{held_by}

-- a recipient, with what was found for it
abbrev pub Recipient : Type 0
Recipient = List ℕ × Option Action

-- one more recipient, as a loop comes to it
pub one_more : (rs : List Recipient) (i : ℕ) (r : Recipient) → i < length rs → r ≡ get_or rs i r →
    take (i + 1) rs ≡ take i rs ++ r ∷ []
one_more rs i r below is = take_more rs i r below ∙ ap (λ x. take i rs ++ x ∷ []) (sym is)

-- what is kept of one
abbrev pub kept_one : Recipient → List Recipient
kept_one r = if not (refuses r.1) then r ∷ [] else []

kept_more : (rs : List Recipient) (r : Recipient) → not_refused (rs ++ r ∷ []) ≡ not_refused rs
    ++ kept_one r
kept_more rs r = filter-append (λ x. not (refuses x.1)) rs (r ∷ [])

pub refused_step : (rs : List Recipient) (i : ℕ) (r : Recipient) → i < length rs → r ≡ get_or rs i r
    → refused_in (take (i + 1) rs) ≡ refused_in (take i rs) ++ cons_option (refused_one r) []
refused_step rs i r below is = ap refused_in (one_more rs i r below is)
    ∙ filter_map-append refused_one (take i rs) (r ∷ [])

-- one recipient, refused or not, after the others
pub refused_next : (rs : List Recipient) (i : ℕ) (r : Recipient) → i < length rs → r ≡ get_or rs i r
    → (one : Option Refused) (before after : List Refused) → one ≡ refused_one r →
    before ≡ refused_in (take i rs) → after ≡ before ++ cons_option one [] →
    after ≡ refused_in (take (i + 1) rs)
refused_next rs i r below is one before after is_one is_before is_after =
    is_after ∙ ap (λ xs. xs ++ cons_option one []) is_before
    ∙ ap (λ o. refused_in (take i rs) ++ cons_option o []) is_one
    ∙ sym (refused_step rs i r below is)

-- what is found for one more
found_more : (found : Option Action) (rs : List Recipient) (r : Recipient) →
    found_in found (rs ++ r ∷ []) ≡ found_in found rs ++ map (λ x. x.1) (kept_one r)
found_more found rs r = ap (λ xs. found ∷ map (λ x. x.1) xs) (kept_more rs r)
    ∙ ap (λ xs. found ∷ xs) (map-append (λ (x : Recipient). x.1) (not_refused rs) (kept_one r))

-- ---- the last redirection

-- an action that refuses redirects nobody
one_redirection : (address : List ℕ) (found : Option Action) →
    filter_map redirection (map (λ (x : Recipient). x.1) (kept_one (address, found))) ≡ cons_option
    (redirection found) []
one_redirection address None = refl
one_redirection address (Some (Okay t)) = refl
one_redirection address (Some (Reject t)) = refl
one_redirection address (Some (Defer t)) = refl
one_redirection address (Some (Dunno t)) = refl
one_redirection address (Some (Discard t)) = refl
one_redirection address (Some (Hold t)) = refl
one_redirection address (Some (Redirect a)) = refl

last_is : {A : Type 0} (xs : List A) (x : A) (d : Option A) → last_or d (xs ++ x ∷ []) ≡ Some x
last_is [] x d = refl
last_is (y ∷ ys) x d = last_is ys x (Some y)

last_more : {A : Type 0} (xs : List A) (o : Option A) →
    last_or None (xs ++ cons_option o []) ≡ option_or o (last_or None xs)
last_more xs None = ap (last_or None) (append-nil xs)
last_more xs (Some x) = last_is xs x None

pub redirect_step : (found : Option Action) (rs : List Recipient) (i : ℕ) (r : Recipient) →
    i < length rs → r ≡ get_or rs i r →
    redirect_of (found_in found (take (i + 1) rs)) ≡ option_or (redirection r.1)
    (redirect_of (found_in found (take i rs)))
redirect_step found rs i r below is =
    ap (λ xs. redirect_of (found_in found xs)) (one_more rs i r below is)
    ∙ ap redirect_of (found_more found (take i rs) r)
    ∙ ap (last_or None) (filter_map-append redirection (found_in found (take i rs))
    (map (λ x. x.1) (kept_one r)))
    ∙ ap (λ xs. last_or None (filter_map redirection (found_in found (take i rs)) ++ xs))
    (one_redirection r.0 r.1)
    ∙ last_more (filter_map redirection (found_in found (take i rs))) (redirection r.1)

-- what is seen of the first of two that is there
seen_or : {A : Type 0} (a b : Option (Bor A)) →
    option_map (λ x. x.now) (option_or a b) ≡ option_or (option_map (λ x. x.now) a)
    (option_map (λ x. x.now) b)
seen_or None b = refl
seen_or (Some x) b = refl

pub redirect_next : (found : Option Action) (rs : List Recipient) (i : ℕ) (r : Recipient) →
    i < length rs → r ≡ get_or rs i r → (next last both : Option (Bor (List ℕ))) →
    both ≡ option_or next last → option_map (λ x. x.now) next ≡ redirection r.1 →
    option_map (λ x. x.now) last ≡ redirect_of (found_in found (take i rs)) →
    option_map (λ x. x.now) both ≡ redirect_of (found_in found (take (i + 1) rs))
redirect_next found rs i r below is next last both is_both is_next is_last =
    ap (option_map (λ x. x.now)) is_both
    ∙ seen_or next last
    ∙ ap (λ o. option_or o (option_map (λ x. x.now) last)) is_next
    ∙ ap (option_or (redirection r.1)) is_last
    ∙ sym (redirect_step found rs i r below is)

-- ---- the first hold

-- an action that refuses holds nothing
one_holding : (address : List ℕ) (found : Option Action) →
    filter_map holding (map (λ (x : Recipient). x.1) (kept_one (address, found))) ≡ cons_option
    (holding found) []
one_holding address None = refl
one_holding address (Some (Okay t)) = refl
one_holding address (Some (Reject t)) = refl
one_holding address (Some (Defer t)) = refl
one_holding address (Some (Dunno t)) = refl
one_holding address (Some (Discard t)) = refl
one_holding address (Some (Hold t)) = refl
one_holding address (Some (Redirect a)) = refl

first_more : {A : Type 0} (xs : List A) (o : Option A) →
    first_of (xs ++ cons_option o []) ≡ option_or (first_of xs) o
first_more [] None = refl
first_more [] (Some x) = refl
first_more (y ∷ ys) o = refl

pub held_step : (found : Option Action) (rs : List Recipient) (i : ℕ) (r : Recipient) →
    i < length rs → r ≡ get_or rs i r →
    held_by (found_in found (take (i + 1) rs)) ≡ option_or (held_by (found_in found (take i rs)))
    (holding r.1)
held_step found rs i r below is =
    ap (λ xs. held_by (found_in found xs)) (one_more rs i r below is)
    ∙ ap held_by (found_more found (take i rs) r)
    ∙ ap first_of (filter_map-append holding (found_in found (take i rs))
    (map (λ x. x.1) (kept_one r)))
    ∙ ap (λ xs. first_of (filter_map holding (found_in found (take i rs)) ++ xs))
    (one_holding r.0 r.1)
    ∙ first_more (filter_map holding (found_in found (take i rs))) (holding r.1)

pub held_next : (found : Option Action) (rs : List Recipient) (i : ℕ) (r : Recipient) →
    i < length rs → r ≡ get_or rs i r → (first next both : Option (Bor (List ℕ))) →
    both ≡ option_or first next → option_map (λ x. x.now) next ≡ holding r.1 →
    option_map (λ x. x.now) first ≡ held_by (found_in found (take i rs)) →
    option_map (λ x. x.now) both ≡ held_by (found_in found (take (i + 1) rs))
held_next found rs i r below is first next both is_both is_next is_first =
    ap (option_map (λ x. x.now)) is_both
    ∙ seen_or first next
    ∙ ap (λ o. option_or o (option_map (λ x. x.now) next)) is_first
    ∙ ap (option_or (held_by (found_in found (take i rs)))) is_next
    ∙ sym (held_step found rs i r below is)

-- ---- whether any discards

-- an action that refuses discards nothing
pub discards_kept : (rs : List Recipient) →
    list_any discards (map (λ r. r.1) (not_refused rs)) ≡ list_any (λ r. discards r.1) rs
discards_kept [] = refl
discards_kept (r ∷ rs) = by r.1 (discards_kept rs) where
  by : (found : Option Action) → list_any discards (map (λ r. r.1) (not_refused rs)) ≡ list_any
      (λ r. discards r.1) rs → list_any discards (map (λ r. r.1) (if not (refuses found) then
      (r.0, found) ∷ not_refused rs else not_refused rs)) ≡ (discards found
      || list_any (λ r. discards r.1) rs)
  by None further = further
  by (Some (Okay t)) further = further
  by (Some (Reject t)) further = further
  by (Some (Defer t)) further = further
  by (Some (Dunno t)) further = further
  by (Some (Discard t)) further = refl
  by (Some (Hold t)) further = further
  by (Some (Redirect a)) further = further
