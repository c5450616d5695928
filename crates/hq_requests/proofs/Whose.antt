-- A call of a customer is of whom its exchange is of; a call of all, or of a hundred, is of none.
use Rattle.std.proofs.Common.{◌≡◌, ℕ, Bool, true, false, cond, List, Option, Some, None, Result, Ok}
use Rattle.std.proofs.Common.{Err, refl, sym, ap, ◌∙◌, inl, inr}
use Rattle.std.specs.Prelude.{⊤, ◌⊎◌, codes, bytes_eq, string_bytes, IfOk}
use Rattle.std.specs.List.{find}
use Rattle.std.specs.Ordering.{eq_by_cmp}
use Rattle.hq_values.specs.Readers.{◌>>=◌, or_refuse}
use Rattle.hq_values.specs.declared.failure.Fail.{Fail}
use Rattle.hq_values.specs.declared.failure.Refusal.{Refusal}
use Rattle.hq_values.specs.declared.failure.Refusal.TheVariants.{NoRoute, WrongMethod, WrongRole}
use Rattle.hq_kept.specs.declared.account.Customer.{Customer}
use Rattle.hq_tables.specs.Tables.{text_cmp}
use Rattle.hq_requests.specs.Callers.{IsHeldBy, IsOfAll}
use Rattle.hq_requests.specs.Calls.{IsAskedBy}
use Rattle.hq_requests.specs.Customers.{has_name}
use Rattle.hq_requests.specs.Directories.{Held, by_customer, by_relay, held_on, held_with}
use Rattle.hq_requests.specs.Directories.{not_relay, relay_alone, whose_seen}
use Rattle.hq_requests.specs.Named.{first_ok, key_shown, named_at, named_by_relay, whose_at}
use Rattle.hq_requests.specs.Routes.{last_segment, methods_at, role_of, route_of}
use Rattle.hq_requests.specs.declared.directory.Directory.{Directory}
use Rattle.hq_requests.specs.declared.exchanges.Exchange.{Exchange}
use Rattle.hq_requests.specs.declared.request.Asking.{Asking}
use Rattle.hq_requests.specs.declared.request.Asking.TheVariants as asking
use Rattle.hq_requests.specs.declared.table.Methods.{Methods}
use Rattle.hq_requests.specs.declared.table.Methods.TheVariants.{Get, Post, GetOrDelete}
use Rattle.hq_requests.specs.declared.table.Role.{Role}
use Rattle.hq_requests.specs.declared.table.Role.TheVariants as role
use Rattle.hq_requests.specs.declared.table.Route.{Route}

pub refused : {A X : Type 0} (e : Refusal) (x : A) → Err e ≡ Ok x → X
refused e x h = absurd (differ h) where
  differ : Err e ≡ Ok x → ⊥
  differ h = cc

-- ---- the role of a path is that of its methods

role_in : Role → Result (Role × Route) Refusal → Role
role_in other (Ok asked) = asked.0
role_in other (Err e) = other

of_method : (is : Bool) (role : Role) (route : Route) (others : Option (Role × Route))
    (asked : Role × Route) → (or_refuse WrongMethod others ≡ Ok asked → role ≡ asked.0) →
    or_refuse WrongMethod (cond is (Some (role, route)) others) ≡ Ok asked → role ≡ asked.0
unfolding role_in
of_method true role route others asked other h = ap (role_in role) h
of_method false role route others asked other h = other h

pub role_kept : (methods : Methods) (method : List ℕ) (asked : Role × Route) →
    or_refuse WrongMethod (route_of methods method) ≡ Ok asked → role_of methods ≡ asked.0
unfolding route_of
role_kept (Get role route) method asked h =
    of_method (bytes_eq method (codes "GET")) role route None asked (refused WrongMethod asked) h
role_kept (Post role route) method asked h =
    of_method (bytes_eq method (codes "POST")) role route None asked (refused WrongMethod asked) h
role_kept (GetOrDelete role first second) method asked h =
    of_method (bytes_eq method (codes "GET")) role first _ asked
    (of_method (bytes_eq method (codes "DELETE")) role second None asked
    (refused WrongMethod asked)) h

-- ---- the relay's key is no customer's

found_by_customer : {X : Type 0} (found : Option Held) (h : Held) →
    by_customer role.Relay found ≡ Ok h → X
found_by_customer None h e = refused _ h e
found_by_customer (Some held) h e = refused _ h e

by_relay_then : (is : Bool) (named : Option Customer) (own : Option Held) (h : Held) →
    cond is (by_relay role.Relay named) (by_customer role.Relay own) ≡ Ok h →
    cond is (by_relay role.Customer named) (by_customer role.Customer own) ≡ Err WrongRole
by_relay_then true named own h e = refl
by_relay_then false named own h e = found_by_customer own h e

pub not_its_own : (d : Directory) (key : Option (List ℕ)) (segment : List ℕ) (h : Held) →
    held_on d role.Relay key segment ≡ Ok h → held_on d role.Customer key segment ≡ Err WrongRole
not_its_own d None segment h e = refused _ h e
not_its_own d (Some key) segment h e = by_relay_then (eq_by_cmp text_cmp key d.relay)
    (find (has_name segment) d.customers) (held_with d key) h e

abbrev alone : Result ⊤ Refusal
alone = Ok tt

found_alone : {X : Type 0} (found : Option Held) → not_relay found ≡ alone → X
found_alone None e = refused _ tt e
found_alone (Some held) e = refused _ tt e

alone_then : (is : Bool) (named : Option Customer) (own : Option Held) →
    cond is alone (not_relay own) ≡ alone →
    cond is (by_relay role.Customer named) (by_customer role.Customer own) ≡ Err WrongRole
alone_then true named own e = refl
alone_then false named own e = found_alone own e

pub relays_own : (d : Directory) (key : Option (List ℕ)) (segment : List ℕ) →
    relay_alone d key ≡ alone → held_on d role.Customer key segment ≡ Err WrongRole
relays_own d None segment e = refused _ tt e
relays_own d (Some key) segment e = alone_then (eq_by_cmp text_cmp key d.relay)
    (find (has_name segment) d.customers) (held_with d key) e

-- ---- by the role of the route

module _ (d : Directory) (key : Option (List ℕ)) (path method : List ℕ) (methods : Methods)
    (at : or_refuse NoRoute (methods_at path) ≡ Ok methods) (r : Role) (route : Route)
    (asked : or_refuse WrongMethod (route_of methods method) ≡ Ok (r, route)) where
  abbrev segment : List ℕ
  segment = last_segment path

  named_as : named_at d key path ≡ named_by_relay d key path r
  named_as = ap (λ found. found >>= (λ ms. named_by_relay d key path (role_of ms))) at
      ∙ ap (named_by_relay d key path) (role_kept methods method (r, route) asked)

  -- a call of a customer, by its own key or by the relay's, is of whom the exchange is of
  pub whose_customer : (h : Held) → r ≡ role.Customer → held_on d r key segment ≡ Ok h →
      whose_at d key path ≡ Some h.whose
  whose_customer h is e = ap (λ own. first_ok own (named_at d key path))
      (ap (λ s. held_on d s key segment) (sym is) ∙ e)

  pub whose_relay : (h : Held) → r ≡ role.Relay → held_on d r key segment ≡ Ok h →
      whose_at d key path ≡ Some h.whose
  whose_relay h is e =
      let found : held_on d role.Relay key segment ≡ Ok h =
      ap (λ s. held_on d s key segment) (sym is) ∙ e in
      (λ i. first_ok (not_its_own d key segment h found i)
      ((named_as ∙ ap (named_by_relay d key path) is ∙ found) i))

  names_none : (r ≡ role.RelayForAll) ⊎ (r ≡ role.RelayFrom) →
      named_by_relay d key path r ≡ Err NoRoute
  names_none (inl is) = ap (named_by_relay d key path) is
  names_none (inr is) = ap (named_by_relay d key path) is

  -- a call of all, or of a hundred, is of none
  pub whose_all : (r ≡ role.RelayForAll) ⊎ (r ≡ role.RelayFrom) → relay_alone d key ≡ Ok tt
      → whose_at d key path ≡ None
  whose_all is e = λ i. first_ok (relays_own d key segment e i) ((named_as ∙ names_none is) i)

-- ---- of what is asked

module _ (d : Directory) (x : Exchange) (method : List ℕ) (methods : Methods)
    (at : or_refuse NoRoute (methods_at (string_bytes x.path)) ≡ Ok methods) (r : Role)
    (route : Route) (asked : or_refuse WrongMethod (route_of methods method) ≡ Ok (r, route)) where
  pub asked_by_one : (r ≡ role.Customer) ⊎ (r ≡ role.Relay) → (found : Result Asking Fail) →
      IfOk found (IsHeldBy d r (key_shown x) (last_segment (string_bytes x.path))) →
      IfOk found (IsAskedBy d x)
  asked_by_one (inl is) (Ok (asking.CallOf caller call)) held =
      whose_customer d (key_shown x) (string_bytes x.path) method methods at r route asked
      (record { whose = whose_seen caller; right = held.0 }) is held.1
  asked_by_one (inr is) (Ok (asking.CallOf caller call)) held =
      whose_relay d (key_shown x) (string_bytes x.path) method methods at r route asked
      (record { whose = whose_seen caller; right = held.0 }) is held.1
  asked_by_one is (Ok (asking.CallOfAll span each)) held = absurd held
  asked_by_one is (Err why) held = tt

  pub asked_of_many : (r ≡ role.RelayForAll) ⊎ (r ≡ role.RelayFrom) →
      (found : Result Asking Fail) → IfOk found (IsOfAll d (key_shown x)) →
      IfOk found (IsAskedBy d x)
  asked_of_many is (Ok (asking.CallOf caller call)) held = absurd held
  asked_of_many is (Ok (asking.CallOfAll span each)) held =
      whose_all d (key_shown x) (string_bytes x.path) method methods at r route asked is held
  asked_of_many is (Err why) held = tt
