-- What the relay's key alone may ask for.
use Rattle.std.proofs.Common.{◌≡◌, ℕ, Bool, true, false, cond, List, Option, Some, None, Ok, refl}
use Rattle.std.proofs.Common.{sym, ap, ◌∙◌, subst}
use Rattle.std.specs.Prelude.{length, nat_le, string_bytes}
use Rattle.std.specs.Ordering.{eq_by_cmp}
use Rattle.std.proofs.lemmas.Map.Lookups.{exact_bytes}
use Rattle.std.proofs.lemmas.Map.Views.{tells_apart}
use Rattle.hq_values.specs.Limits.{most_bytes}
use Rattle.hq_values.specs.Readers.{◌>>=◌, guard, or_refuse}
use Rattle.hq_values.specs.declared.failure.Refusal.TheVariants.{BodyTooLong, NoRoute, WrongMethod}
use Rattle.hq_values.specs.declared.failure.Refusal.TheVariants.{WrongRole}
use Rattle.hq_tables.specs.Tables.{text_cmp}
use Rattle.hq_rules.specs.declared.call.Call.{Call}
use Rattle.hq_requests.specs.Calls.{CallOf, CallOfAll, asked_as, asked_of, call_from, call_of}
use Rattle.std.specs.List.{find}
use Rattle.hq_requests.specs.Customers.{has_name}
use Rattle.hq_requests.specs.declared.table.Methods.{Methods}
use Rattle.hq_requests.proofs.Whose.{role_kept}
use Rattle.hq_requests.specs.Directories.{Held, by_customer, by_relay, held_on, held_with}
use Rattle.hq_requests.specs.Directories.{not_relay, relay_alone}
use Rattle.hq_requests.specs.Named.{key_shown}
use Rattle.hq_requests.specs.Rights.{allows}
use Rattle.hq_requests.specs.Routes.{last_segment, methods_at, role_of, route_of}
use Rattle.hq_requests.specs.Spans.{Whom}
use Rattle.hq_requests.specs.declared.directory.Directory.{Directory}
use Rattle.hq_requests.specs.declared.exchanges.Exchange.{Exchange}
use Rattle.hq_requests.specs.declared.table.Role.{Role}
use Rattle.hq_requests.specs.declared.table.Role.TheVariants as role
use Rattle.hq_requests.specs.declared.table.Route.{Route}
use Rattle.hq_laws.proofs.Showing.{went_on, same_ok, refused}

-- the relay alone
alone : (d : Directory) (shown : Option (List ℕ)) → relay_alone d shown ≡ Ok tt →
    shown ≡ Some d.relay
alone d None h = refused _ tt h
alone d (Some key) h = by (eq_by_cmp text_cmp key d.relay) refl h where
  not : (held : Option Held) → not_relay held ≡ Ok tt → ⊥
  not None h = refused _ tt h
  not (Some held) h = refused _ tt h

  by : (b : Bool) → eq_by_cmp text_cmp key d.relay ≡ b →
      cond b (Ok tt) (not_relay (held_with d key)) ≡ Ok tt → Some key ≡ Some d.relay
  by true e h = ap Some (tells_apart exact_bytes key d.relay e)
  by false e h = absurd (not (held_with d key) h)

of_one_is : {X : Type 0} (whom : Whom) (name : List ℕ) (c e : Call) →
    CallOf name c ≡ CallOfAll whom e → X
of_one_is whom name c e h = absurd (differ h) where
  differ : CallOf name c ≡ CallOfAll whom e → ⊥
  differ h = cc

module _ (d : Directory) (path body : List ℕ) (whom : Whom) (call : Call) where
  of_one : (r : Role) (asking : Route) (shown : Option (List ℕ)) →
      (held_on d r shown (last_segment path) >>= (λ held.
      guard (allows held.right asking) WrongRole >>= (λ right.
      asked_of asking (last_segment path) body >>= (λ it.
      Ok (CallOf held.whose.customer it))))) ≡ Ok (CallOfAll whom call) → shown ≡ Some d.relay
  of_one r asking shown e =
      let who = went_on (held_on d r shown (last_segment path)) _ (CallOfAll whom call) e in
      let may = went_on (guard (allows who.0.right asking) WrongRole) _ (CallOfAll whom call)
      who.2 in
      let it = went_on (asked_of asking (last_segment path) body) _ (CallOfAll whom call) may.2 in
      of_one_is whom who.0.whose.customer it.0 call (same_ok _ _ it.2)

  by_role : (r : Role) (asking : Route) (shown : Option (List ℕ)) →
      asked_as d r asking shown (last_segment path) body ≡ Ok (CallOfAll whom call) →
      shown ≡ Some d.relay
  by_role role.Customer asking shown e = of_one role.Customer asking shown e
  by_role role.Relay asking shown e = of_one role.Relay asking shown e
  by_role role.RelayForAll asking shown e =
      alone d shown (went_on (relay_alone d shown) _ (CallOfAll whom call) e).1
  by_role role.RelayFrom asking shown e =
      alone d shown (went_on (relay_alone d shown) _ (CallOfAll whom call) e).1

pub all_of_relay : (d : Directory) (x : Exchange) (whom : Whom) (call : Call) →
    call_of d x ≡ Ok (CallOfAll whom call) → key_shown x ≡ Some d.relay
unfolding call_from
all_of_relay d x whom call e =
    let path = string_bytes x.path in
    let asked = CallOfAll whom call in
    let short = went_on (guard (nat_le (length x.body.items) most_bytes) BodyTooLong) _ asked e in
    let at = went_on (or_refuse NoRoute (methods_at path)) _ asked short.2 in
    let found = went_on (or_refuse WrongMethod (route_of at.0 (string_bytes x.method))) _ asked
    at.2 in
    by_role d path x.body.items whom call found.0.0 found.0.1 (key_shown x) found.2

-- paths of the relay
relays : (d : Directory) (shown : Option (List ℕ)) (segment : List ℕ) (h : Held) →
    held_on d role.Relay shown segment ≡ Ok h → shown ≡ Some d.relay
relays d None segment h e = refused _ h e
relays d (Some key) segment h e = by (eq_by_cmp text_cmp key d.relay) refl e where
  not : (held : Option Held) → by_customer role.Relay held ≡ Ok h → ⊥
  not None e = refused _ h e
  not (Some held) e = refused _ h e

  by : (b : Bool) → eq_by_cmp text_cmp key d.relay ≡ b →
      cond b (by_relay role.Relay (find (has_name segment) d.customers))
      (by_customer role.Relay (held_with d key)) ≡ Ok h → Some key ≡ Some d.relay
  by true is e = ap Some (tells_apart exact_bytes key d.relay is)
  by false is e = absurd (not (held_with d key) e)

pub of_relay : (d : Directory) (x : Exchange) (name : List ℕ) (call : Call) (methods : Methods) →
    call_of d x ≡ Ok (CallOf name call) → methods_at (string_bytes x.path) ≡ Some methods →
    role_of methods ≡ role.Relay → key_shown x ≡ Some d.relay
unfolding call_from
of_relay d x name call methods e there is =
    let path = string_bytes x.path in
    let asked = CallOf name call in
    let short = went_on (guard (nat_le (length x.body.items) most_bytes) BodyTooLong) _ asked e in
    let at = went_on (or_refuse NoRoute (methods_at path)) _ asked short.2 in
    let found = went_on (or_refuse WrongMethod (route_of at.0 (string_bytes x.method))) _ asked
    at.2 in
    let same : methods ≡ at.0 =
    same_ok _ _ (sym (ap (or_refuse NoRoute) there) ∙ at.1) in
    let r : role.Relay ≡ found.0.0 = sym is ∙ ap role_of same
    ∙ role_kept at.0 (string_bytes x.method) found.0 found.1 in
    let one : asked_as d role.Relay found.0.1 (key_shown x) (last_segment path) x.body.items
    ≡ Ok asked =
    subst (λ q. asked_as d q found.0.1 (key_shown x) (last_segment path) x.body.items ≡ Ok asked)
    (sym r) found.2 in
    let who = went_on (held_on d role.Relay (key_shown x) (last_segment path)) _ asked one in
    relays d (key_shown x) (last_segment path) who.0 who.1
