-- By which key a call is made.
use Rattle.std.proofs.Common.{◌≡◌, ◌⊎◌, inl, inr, ℕ, Bool, true, false, cond, List}
use Rattle.std.proofs.Common.{[], ◌∷◌, Option, Some, None, Result, Ok, Err, refl, sym, ap, ◌∙◌}
use Rattle.std.proofs.Common.{subst}
use Rattle.std.specs.Prelude.{length, nat_le, string_bytes, option_map, option_and_then}
use Rattle.std.specs.List.{find}
use Rattle.std.specs.Option.{option_or}
use Rattle.std.specs.Ordering.{eq_by_cmp}
use Rattle.std.proofs.lemmas.Map.Lookups.{exact_bytes}
use Rattle.std.proofs.lemmas.Map.Views.{tells_apart}
use Rattle.hq_values.specs.Limits.{most_bytes}
use Rattle.hq_values.specs.Readers.{◌>>=◌, guard, or_refuse}
use Rattle.hq_values.specs.declared.failure.Refusal.{Refusal}
use Rattle.hq_values.specs.declared.failure.Refusal.TheVariants.{BodyTooLong, NoRoute, WrongMethod}
use Rattle.hq_values.specs.declared.failure.Refusal.TheVariants.{WrongRole}
use Rattle.hq_kept.specs.declared.account.Customer.{Customer}
use Rattle.hq_tables.specs.Tables.{text_cmp}
use Rattle.hq_import.specs.Keys.{opens}
use Rattle.hq_import.specs.declared.keys.NamedKey.{NamedKey}
use Rattle.hq_rules.specs.declared.call.Call.{Call}
use Rattle.hq_requests.specs.Calls.{Asked, CallOf, CallOfAll, asked_as, asked_of, asked_of_each}
use Rattle.hq_requests.specs.Calls.{call_from, call_of, whom_in}
use Rattle.hq_requests.specs.Customers.{has_key, has_name}
use Rattle.hq_requests.specs.Directories.{Held, by_customer, by_name, by_relay, held_on, held_with}
use Rattle.hq_requests.specs.Directories.{in_full, named_held, relay_alone}
use Rattle.hq_requests.specs.Named.{key_shown}
use Rattle.hq_requests.specs.Rights.{allows}
use Rattle.hq_requests.specs.Routes.{last_segment, methods_at, route_of}
use Rattle.hq_requests.specs.Spans.{Everyone, Whom}
use Rattle.hq_requests.specs.declared.directory.Directory.{Directory}
use Rattle.hq_requests.specs.declared.exchanges.Exchange.{Exchange}
use Rattle.hq_requests.specs.declared.table.Role.{Role}
use Rattle.hq_requests.specs.declared.table.Role.TheVariants as role
use Rattle.hq_requests.specs.declared.table.Route.{Route}
use Rattle.hq_laws.specs.Whose.{IsNamed, IsOwn, IsRelays, MayCall}
use Rattle.hq_laws.proofs.Among.{Among, contained}
use Rattle.std.specs.List.{Contains}

pub refused : {A X : Type 0} (e : Refusal) (x : A) → Err e ≡ Ok x → X
refused e x h = absurd (differ h) where
  differ : Err e ≡ Ok x → ⊥
  differ h = cc

pub went_on : {A B : Type 0} (first : Result A Refusal) (then : A → Result B Refusal) (y : B) →
    (first >>= then) ≡ Ok y → (x : A) × (first ≡ Ok x) × (then x ≡ Ok y)
went_on (Ok x) then y h = (x, refl, h)
went_on (Err e) then y h = refused e y h

pub same_ok : {A : Type 0} (a b : A) → ◌≡◌ {A = Result A Refusal} (Ok a) (Ok b) → a ≡ b
same_ok a b e = cc

same_some : {A : Type 0} (a b : A) → ◌≡◌ {A = Option A} (Some a) (Some b) → a ≡ b
same_some a b e = cc

none_some : {A : Type 0} {x : A} → ◌≡◌ {A = Option A} None (Some x) → ⊥
none_some h = cc

-- what is found is among them, and passes
among_found : {A : Type 0} (p : A → Bool) (xs : List A) (x : A) → find p xs ≡ Some x →
    Among x xs × (p x ≡ true)
among_found p [] x h = absurd (none_some h)
among_found p (y ∷ ys) x h = by (among_found p ys x) (p y) refl h where
  by : (find p ys ≡ Some x → Among x ys × (p x ≡ true)) → (b : Bool) → p y ≡ b →
      cond b (Some y) (find p ys) ≡ Some x → ((x ≡ y) ⊎ Among x ys) × (p x ≡ true)
  by rest true e h = let same = same_some y x h in (inl (sym same), ap p (sym same) ∙ e)
  by rest false e h = let it = rest h in (inr it.0, it.1)

pub found : {A : Type 0} (p : A → Bool) (xs : List A) (x : A) → find p xs ≡ Some x →
    Contains xs x × (p x ≡ true)
found p xs x h = let it = among_found p xs x h in (contained x xs it.0, it.1)

name_of_call : List ℕ → Asked → List ℕ
name_of_call other (CallOf name call) = name
name_of_call other (CallOfAll whom call) = other

named_by : (a b : List ℕ) (c e : Call) → CallOf a c ≡ CallOf b e → a ≡ b
unfolding name_of_call
named_by a b c e h = ap (name_of_call a) h

of_all : {X : Type 0} (whom : Whom) (name : List ℕ) (c e : Call) →
    CallOfAll whom c ≡ CallOf name e → X
of_all whom name c e h = absurd (differ h) where
  differ : CallOfAll whom c ≡ CallOf name e → ⊥
  differ h = cc

-- ---- a key

module _ (d : Directory) (path key : List ℕ) where
  by_own : (own : Option Customer) → find (has_key key) d.customers ≡ own →
      (k : Option NamedKey) → find (opens key) d.keys ≡ k → (h : Held) →
      option_or (option_map in_full own) (option_and_then (named_held d.customers) k) ≡ Some h →
      IsOwn d h.whose.customer key ⊎ IsNamed d h.whose.customer key
  by_own (Some c) e k f h is =
      let it = found (has_key key) d.customers c e in
      let same : in_full c ≡ h = same_some (in_full c) h is in
      inl (
        c,
        it.0,
        ap (λ (x : Held). x.whose.customer) same,
        sym (tells_apart exact_bytes key c.key it.1),
      )
  by_own None e None f h is = absurd (none_some is)
  by_own None e (Some k) f h is = of_name (find (has_name k.customer) d.customers) refl is
    where
      of_name : (c : Option Customer) → find (has_name k.customer) d.customers ≡ c →
          option_map (by_name k) c ≡ Some h →
          IsOwn d h.whose.customer key ⊎ IsNamed d h.whose.customer key
      of_name None g is = absurd (none_some is)
      of_name (Some c) g is =
          let it = found (opens key) d.keys k f in
          let who = found (has_name k.customer) d.customers c g in
          let same : by_name k c ≡ h = same_some (by_name k c) h is in
          inr (
            k,
            it.0,
            tells_apart exact_bytes k.customer c.entry.name who.1
                ∙ ap (λ (x : Held). x.whose.customer) same,
            sym (tells_apart exact_bytes key k.key it.1),
          )

  of_relay : (r : Role) (named : Option Customer) →
      find (has_name (last_segment path)) d.customers ≡ named → (h : Held) → key ≡ d.relay →
      by_relay r named ≡ Ok h → IsRelays d path h.whose.customer key
  of_relay role.Customer named e h is told = refused WrongRole h told
  of_relay role.Relay None e h is told = refused _ h told
  of_relay role.RelayForAll None e h is told = refused _ h told
  of_relay role.RelayFrom None e h is told = refused _ h told
  of_relay role.Relay (Some c) e h is told =
      let it = found (has_name (last_segment path)) d.customers c e in
      let same : c.entry.name ≡ h.whose.customer =
      ap (λ (x : Held). x.whose.customer) (same_ok (in_full c) h told) in
      (is, tells_apart exact_bytes (last_segment path) c.entry.name it.1 ∙ same, (c, it.0, same))
  of_relay role.RelayForAll (Some c) e h is told =
      let it = found (has_name (last_segment path)) d.customers c e in
      let same : c.entry.name ≡ h.whose.customer =
      ap (λ (x : Held). x.whose.customer) (same_ok (in_full c) h told) in
      (is, tells_apart exact_bytes (last_segment path) c.entry.name it.1 ∙ same, (c, it.0, same))
  of_relay role.RelayFrom (Some c) e h is told =
      let it = found (has_name (last_segment path)) d.customers c e in
      let same : c.entry.name ≡ h.whose.customer =
      ap (λ (x : Held). x.whose.customer) (same_ok (in_full c) h told) in
      (is, tells_apart exact_bytes (last_segment path) c.entry.name it.1 ∙ same, (c, it.0, same))

  of_customer : (r : Role) (own : Option Held) (h : Held) → by_customer r own ≡ Ok h →
      own ≡ Some h
  of_customer role.Customer None h told = refused _ h told
  of_customer role.Relay None h told = refused _ h told
  of_customer role.RelayForAll None h told = refused _ h told
  of_customer role.RelayFrom None h told = refused _ h told
  of_customer role.Customer (Some held) h told = ap Some (same_ok held h told)
  of_customer role.Relay (Some held) h told = refused WrongRole h told
  of_customer role.RelayForAll (Some held) h told = refused WrongRole h told
  of_customer role.RelayFrom (Some held) h told = refused WrongRole h told

  by_key : (r : Role) (b : Bool) → eq_by_cmp text_cmp key d.relay ≡ b → (h : Held) →
      cond b (by_relay r (find (has_name (last_segment path)) d.customers))
      (by_customer r (held_with d key)) ≡ Ok h →
      IsRelays d path h.whose.customer key
      ⊎ (IsOwn d h.whose.customer key ⊎ IsNamed d h.whose.customer key)
  by_key r true e h told = inl (of_relay r (find (has_name (last_segment path)) d.customers) refl h
      (tells_apart exact_bytes key d.relay e) told)
  by_key r false e h told = inr (by_own (find (has_key key) d.customers) refl
      (find (opens key) d.keys) refl h (of_customer r (held_with d key) h told))

  pub by_shown : (r : Role) (h : Held) → held_on d r (Some key) (last_segment path) ≡ Ok h →
      IsRelays d path h.whose.customer key
      ⊎ (IsOwn d h.whose.customer key ⊎ IsNamed d h.whose.customer key)
  by_shown r h told = by_key r (eq_by_cmp text_cmp key d.relay) refl h told

-- ---- an exchange

module _ (d : Directory) (path body name : List ℕ) (call : Call) where
  abbrev pub Made : Option (List ℕ) → Type 0
  Made shown = (key : List ℕ) × (shown ≡ Some key)
      × (IsRelays d path name key ⊎ (IsOwn d name key ⊎ IsNamed d name key))

  by_holder : (r : Role) (shown : Option (List ℕ)) (h : Held) →
      held_on d r shown (last_segment path) ≡ Ok h → h.whose.customer ≡ name → Made shown
  by_holder r None h told same = refused _ h told
  by_holder r (Some key) h told same = (
    key,
    refl,
    subst (λ n. IsRelays d path n key ⊎ (IsOwn d n key ⊎ IsNamed d n key)) same
        (by_shown d path key r h told),
  )

  of_one : (r : Role) (asking : Route) (shown : Option (List ℕ)) →
      (held_on d r shown (last_segment path) >>= (λ held.
      guard (allows held.right asking) WrongRole >>= (λ right.
      asked_of asking (last_segment path) body >>= (λ it.
      Ok (CallOf held.whose.customer it))))) ≡ Ok (CallOf name call) → Made shown
  of_one r asking shown e =
      let who = went_on (held_on d r shown (last_segment path)) _ (CallOf name call) e in
      let may = went_on (guard (allows who.0.right asking) WrongRole) _ (CallOf name call) who.2 in
      let it = went_on (asked_of asking (last_segment path) body) _ (CallOf name call) may.2 in
      by_holder r shown who.0 who.1
      (named_by who.0.whose.customer name it.0 call (same_ok _ _ it.2))

  by_role : (r : Role) (asking : Route) (shown : Option (List ℕ)) →
      asked_as d r asking shown (last_segment path) body ≡ Ok (CallOf name call) → Made shown
  by_role role.Customer asking shown e = of_one role.Customer asking shown e
  by_role role.Relay asking shown e = of_one role.Relay asking shown e
  by_role role.RelayForAll asking shown e =
      let relay = went_on (relay_alone d shown) _ (CallOf name call) e in
      let each = went_on (asked_of_each asking) _ (CallOf name call) relay.2 in
      of_all Everyone name each.0 call (same_ok _ _ each.2)
  by_role role.RelayFrom asking shown e =
      let relay = went_on (relay_alone d shown) _ (CallOf name call) e in
      let each = went_on (asked_of_each asking) _ (CallOf name call) relay.2 in
      let whom = went_on (whom_in d role.RelayFrom body) _ (CallOf name call) each.2 in
      of_all whom.0 name each.0 call (same_ok _ _ whom.2)

pub may_call : (d : Directory) (x : Exchange) (name : List ℕ) (call : Call) →
    call_of d x ≡ Ok (CallOf name call) → MayCall d x name
unfolding call_from
may_call d x name call e =
    let path = string_bytes x.path in
    let asked = CallOf name call in
    let short = went_on (guard (nat_le (length x.body.items) most_bytes) BodyTooLong) _ asked e in
    let at = went_on (or_refuse NoRoute (methods_at path)) _ asked short.2 in
    let found = went_on (or_refuse WrongMethod (route_of at.0 (string_bytes x.method))) _ asked
    at.2 in
    by_role d path x.body.items name call found.0.0 found.0.1 (key_shown x) found.2
