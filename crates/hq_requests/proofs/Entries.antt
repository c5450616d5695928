-- The customer that a look-up finds is the one under its name.
use Rattle.std.proofs.Common.{◌≡◌, ◌≢◌, ℕ, zero, suc, ◌<◌, length, get_or, arith, Bool, true, false}
use Rattle.std.proofs.Common.{cond, not, ◌||◌, List, [], ◌∷◌, Some, None, Option, sym, refl, ap}
use Rattle.std.proofs.Common.{◌∙◌, subst}
use Rattle.std.specs.List.{find, list_any}
use Rattle.std.specs.Ordering.{eq_by_cmp}
use Rattle.std.specs.Cmp.Lexicographic.{nat_list_cmp_total}
use Rattle.std.proofs.lemmas.Bool.{and_parts, false≢true}
use Rattle.std.proofs.lemmas.List.{get_or-take, length-take}
use Rattle.std.proofs.lemmas.Map.Lookups.{exact_bytes}
use Rattle.std.proofs.lemmas.Map.Views.{tells_apart}
use Rattle.hq_kept.specs.declared.account.Customer.{Customer}
use Rattle.hq_kept.specs.declared.account.Entry.{Entry}
use Rattle.hq_tables.specs.Tables.{text_cmp}
use Rattle.hq_owned.proofs.Parts.{tied_true, tied_false}
use Rattle.hq_requests.specs.Customers.{has_name, names_apart, keys_apart, are_customers}
use Rattle.hq_requests.specs.Directories.{entry_in}
use Rattle.hq_requests.specs.Spans.{Whom, Everyone, From, asked_in, from_name, from_start}
use Rattle.hq_requests.specs.Spans.{most_asked}
use Rattle.hq_requests.specs.declared.directory.Directory.{Directory}

same_some : {A : Type 0} (a b : A) → ◌≡◌ {A = Option A} (Some a) (Some b) → a ≡ b
same_some a b e = cc

none_some : {A : Type 0} (a : A) → ◌≡◌ {A = Option A} None (Some a) → ⊥
none_some a e = cc

or_false : (a b : Bool) → (a || b) ≡ false → (a ≡ false) × (b ≡ false)
or_false true b e = absurd (false≢true (sym e))
or_false false b e = (refl, e)

not_true : (a : Bool) → not a ≡ true → a ≡ false
not_true true e = absurd (false≢true e)
not_true false e = refl

-- a test that none passes, the one that is found does not pass
passed : (q p : Customer → Bool) (cs : List Customer) (c : Customer) → list_any q cs ≡ false →
    find p cs ≡ Some c → q c ≡ false
passed q p [] c none f = absurd (none_some c f)
passed q p (y ∷ ys) c none f = by (or_false (q y) (list_any q ys) none)
    (λ rest g. passed q p ys c rest g) (p y) f where
      by : (q y ≡ false) × (list_any q ys ≡ false) → (list_any q ys ≡ false → find p ys ≡ Some c →
          q c ≡ false) → (b : Bool) → cond b (Some y) (find p ys) ≡ Some c → q c ≡ false
      by parts further true g = let same : y ≡ c = same_some y c g in ap q (sym same) ∙ parts.0
      by parts further false g = further parts.1 g

under_name : (p : Customer → Bool) (cs : List Customer) (c : Customer) → names_apart cs ≡ true →
    find p cs ≡ Some c → entry_in cs c.entry.name ≡ c.entry
under_name p [] c apart f = absurd (none_some c f)
under_name p (y ∷ ys) c apart f =
    by (and_parts (not (list_any (has_name y.entry.name) ys)) (names_apart ys) apart)
    (λ rest g. under_name p ys c rest g) (p y) f where
      by : (not (list_any (has_name y.entry.name) ys) ≡ true) × (names_apart ys ≡ true) →
          (names_apart ys ≡ true → find p ys ≡ Some c → entry_in ys c.entry.name ≡ c.entry) →
          (b : Bool)
          → cond b (Some y) (find p ys) ≡ Some c
          → cond (eq_by_cmp text_cmp c.entry.name y.entry.name) y.entry (entry_in ys c.entry.name) ≡
          c.entry
      by parts further true g =
          let same : y ≡ c = same_some y c g in
          ap (λ (x : Customer). cond (eq_by_cmp text_cmp c.entry.name x.entry.name) x.entry
          (entry_in ys c.entry.name)) same
          ∙ ap (λ b. cond b c.entry (entry_in ys c.entry.name))
          (tied_true nat_list_cmp_total c.entry.name)
      by parts further false g =
          let other : eq_by_cmp text_cmp y.entry.name c.entry.name ≡ false =
          passed (has_name y.entry.name) p ys c
          (not_true (list_any (has_name y.entry.name) ys) parts.0) g in
          let apart_names : c.entry.name ≢ y.entry.name =
          λ e. false≢true (sym other ∙ ap (eq_by_cmp text_cmp y.entry.name) e
          ∙ tied_true nat_list_cmp_total y.entry.name) in
          ap (λ b. cond b y.entry (entry_in ys c.entry.name))
          (tied_false exact_bytes c.entry.name y.entry.name apart_names) ∙ further parts.1 g

-- the entry that was found is that under its name
pub entry_found : (p : Customer → Bool) (cs : List Customer) (c : Customer) →
    are_customers cs ≡ true → find p cs ≡ Some c → entry_in cs c.entry.name ≡ c.entry
entry_found p cs c h f = under_name p cs c (and_parts (names_apart cs) (keys_apart cs) h).0 f

-- and so is one that was found to be the same
pub entry_held : (p : Customer → Bool) (cs : List Customer) (c : Customer) (e : Entry) →
    are_customers cs ≡ true → find p cs ≡ Some c → e ≡ c.entry → e ≡ entry_in cs e.name
entry_held p cs c e h f is = subst (λ (x : Entry). x ≡ entry_in cs x.name) (sym is)
    (sym (entry_found p cs c h f))

-- a test that none passes, the one at a place does not pass
none_at : (q : Customer → Bool) (cs : List Customer) (i : ℕ) (c : Customer) → list_any q cs ≡ false
    → i < length cs → q (get_or cs i c) ≡ false
none_at q [] i c none below = absurd (omega arith)
none_at q (y ∷ ys) zero c none below = (or_false (q y) (list_any q ys) none).0
none_at q (y ∷ ys) (suc i) c none below =
    none_at q ys i c (or_false (q y) (list_any q ys) none).1 (omega arith)

at_place : (cs : List Customer) (i : ℕ) (c : Customer) → names_apart cs ≡ true → i < length cs →
    entry_in cs (get_or cs i c).entry.name ≡ (get_or cs i c).entry
at_place [] i c apart below = absurd (omega arith)
at_place (y ∷ ys) zero c apart below =
    ap (λ b. cond b y.entry (entry_in ys y.entry.name)) (tied_true nat_list_cmp_total y.entry.name)
at_place (y ∷ ys) (suc i) c apart below =
    let x = get_or ys i c in
    let parts = and_parts (not (list_any (has_name y.entry.name) ys)) (names_apart ys) apart in
    let other : eq_by_cmp text_cmp y.entry.name x.entry.name ≡ false =
    none_at (has_name y.entry.name) ys i c
    (not_true (list_any (has_name y.entry.name) ys) parts.0) (omega arith) in
    let apart_names : x.entry.name ≢ y.entry.name =
    λ e. false≢true (sym other ∙ ap (eq_by_cmp text_cmp y.entry.name) e
    ∙ tied_true nat_list_cmp_total y.entry.name) in
    ap (λ b. cond b y.entry (entry_in ys x.entry.name))
    (tied_false exact_bytes x.entry.name y.entry.name apart_names)
    ∙ at_place ys i c parts.1 (omega arith)

-- the entry of the customer at a place is that under its name
pub entry_at : (cs : List Customer) (i : ℕ) (c x : Customer) → are_customers cs ≡ true →
    i < length cs → x ≡ get_or cs i c → entry_in cs x.entry.name ≡ x.entry
entry_at cs i c x h below is = subst (λ (y : Customer). entry_in cs y.entry.name ≡ y.entry) (sym is)
    (at_place cs i c (and_parts (names_apart cs) (keys_apart cs) h).0 below)

-- a place behind a name is a place of all
at_suffix : (name : List ℕ) (cs : List Customer) (i : ℕ) (c : Customer) →
    i < length (from_name name cs) → (j : ℕ) × (j < length cs)
    × (get_or cs j c ≡ get_or (from_name name cs) i c)
at_suffix name [] i c below = absurd (omega arith)
at_suffix name (y ∷ ys) i c below = by (at_suffix name ys i c) (has_name name y) below where
  by : (i < length (from_name name ys) → (j : ℕ) × (j < length ys)
      × (get_or ys j c ≡ get_or (from_name name ys) i c)) → (b : Bool) →
      i < length (cond b (y ∷ ys) (from_name name ys)) → (j : ℕ) × (j < length (y ∷ ys))
      × (get_or (y ∷ ys) j c ≡ get_or (cond b (y ∷ ys) (from_name name ys)) i c)
  by further true below = (i, below, refl)
  by further false below = let at = further below in (suc at.0, omega (arith, at.1), at.2)

at_start : (start : Option (List ℕ)) (cs : List Customer) (i : ℕ) (c : Customer) →
    i < length (from_start start cs) → (j : ℕ) × (j < length cs)
    × (get_or cs j c ≡ get_or (from_start start cs) i c)
at_start None cs i c below = (i, below, refl)
at_start (Some name) cs i c below = at_suffix name cs i c below

-- and so of those that are asked
pub entry_asked : (d : Directory) (whom : Whom) (i : ℕ) (c x : Customer) →
    i < length (asked_in d whom) → x ≡ get_or (asked_in d whom) i c →
    entry_in d.customers x.entry.name ≡ x.entry
entry_asked d Everyone i c x below is = entry_at d.customers i c x d.apart below is
entry_asked d (From start) i c x below is =
    let cs = from_start start d.customers in
    let short = length-take most_asked cs in
    let first : i < most_asked = omega (arith, short, below) in
    let at = at_start start d.customers i c (omega (arith, short, below)) in
    entry_at d.customers at.0 c x d.apart at.1 (is ∙ get_or-take most_asked cs i c first ∙ sym at.2)

-- the entry under a name has this name, whether it is a customer's or not
pub named : (cs : List Customer) (name : List ℕ) → (entry_in cs name).name ≡ name
named [] name = refl
named (c ∷ cs) name = by (named cs name) (eq_by_cmp text_cmp name c.entry.name) refl where
  by : (entry_in cs name).name ≡ name → (b : Bool) → eq_by_cmp text_cmp name c.entry.name ≡ b →
      (cond b c.entry (entry_in cs name)).name ≡ name
  by further true e = sym (tells_apart exact_bytes name c.entry.name e)
  by further false e = further
