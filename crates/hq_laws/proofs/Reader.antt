-- What is asked by a key that may only read only reads.
use Rattle.std.proofs.Common.{◌≡◌, ℕ, Bool, true, false, not, List, Option, Result, Ok, Err, refl}
use Rattle.std.proofs.Common.{sym, ap, ◌∙◌, subst}
use Rattle.std.specs.Prelude.{⊤, length, nat_le, string_bytes}
use Rattle.hq_values.specs.Limits.{most_bytes}
use Rattle.hq_values.specs.Readers.{◌>>=◌, guard, or_refuse}
use Rattle.hq_values.specs.declared.failure.Refusal.{Refusal}
use Rattle.hq_values.specs.declared.failure.Refusal.TheVariants.{BodyTooLong, NoRoute, WrongMethod}
use Rattle.hq_values.specs.declared.failure.Refusal.TheVariants.{WrongRole}
use Rattle.hq_rules.specs.Unchanged.{only_reads}
use Rattle.hq_rules.specs.declared.call.Call.{Call}
use Rattle.hq_import.specs.declared.keys.Right.TheVariants.{Reading}
use Rattle.hq_requests.specs.Calls.{Asked, CallOf, asked_as, asked_of, call_from, call_in, call_of}
use Rattle.hq_requests.specs.Directories.{Held, held_on, relay_alone}
use Rattle.hq_requests.specs.Named.{key_shown}
use Rattle.hq_requests.specs.Rights.{allows}
use Rattle.hq_requests.specs.Routes.{changes, last_segment, methods_at, route_of}
use Rattle.hq_requests.specs.declared.directory.Directory.{Directory}
use Rattle.hq_requests.specs.declared.exchanges.Exchange.{Exchange}
use Rattle.hq_requests.specs.declared.table.Role.{Role}
use Rattle.hq_requests.specs.declared.table.Role.TheVariants as role
use Rattle.hq_requests.specs.declared.table.Route.{Route}
use Rattle.hq_requests.proofs.Reading.{Reads, reads_as_told}
use Rattle.hq_requests.proofs.Whose.{not_its_own, refused, relays_own}

-- what a reading behind another says of the first
went_on : {A B : Type 0} (first : Result A Refusal) (then : A → Result B Refusal) (y : B) →
    (first >>= then) ≡ Ok y → (x : A) × (first ≡ Ok x) × (then x ≡ Ok y)
went_on (Ok x) then y h = (x, refl, h)
went_on (Err e) then y h = refused e y h

same_ok : {A : Type 0} (a b : A) → ◌≡◌ {A = Result A Refusal} (Ok a) (Ok b) → a ≡ b
same_ok a b e = cc

passed : (b : Bool) (refusal : Refusal) (nothing : ⊤) → guard b refusal ≡ Ok nothing → b ≡ true
passed true refusal nothing h = refl
passed false refusal nothing h = refused refusal nothing h

module _ (d : Directory) (key : Option (List ℕ)) (segment body : List ℕ) (h : Held)
    (held : held_on d role.Customer key segment ≡ Ok h) (reader : h.right ≡ Reading)
    (asked : Asked) where
  by_route : (asking : Route) (read : Result Call Refusal) → allows h.right asking ≡ true →
      Reads (not (changes asking)) read →
      (read >>= (λ call. Ok (CallOf h.whose.customer call))) ≡ Ok asked →
      only_reads (call_in asked) ≡ true
  by_route asking (Ok call) may reads e =
      ap (λ (a : Asked). only_reads (call_in a)) (sym (same_ok _ asked e)) ∙ reads
      ∙ ap (λ r. allows r asking) (sym reader) ∙ may
  by_route asking (Err why) may reads e = refused why asked e

  by_role : (r : Role) (asking : Route) → asked_as d r asking key segment body ≡ Ok asked →
      only_reads (call_in asked) ≡ true
  by_role role.Customer asking e =
      let who = went_on (held_on d role.Customer key segment) _ asked e in
      let same : who.0 ≡ h = same_ok who.0 h (sym who.1 ∙ held) in
      let own = subst (λ (it : Held). (guard (allows it.right asking) WrongRole >>=
      (λ right. asked_of asking segment body >>= (λ call. Ok (CallOf it.whose.customer call))))
      ≡ Ok asked) same who.2 in
      let may = went_on (guard (allows h.right asking) WrongRole) _ asked own in
      by_route asking (asked_of asking segment body)
      (passed (allows h.right asking) WrongRole may.0 may.1)
      (reads_as_told asking segment body) may.2
  by_role role.Relay asking e =
      let who = went_on (held_on d role.Relay key segment) _ asked e in
      refused WrongRole h (sym (not_its_own d key segment who.0 who.1) ∙ held)
  by_role role.RelayForAll asking e =
      let relay = went_on (relay_alone d key) _ asked e in
      refused WrongRole h (sym (relays_own d key segment relay.1) ∙ held)
  by_role role.RelayFrom asking e =
      let relay = went_on (relay_alone d key) _ asked e in
      refused WrongRole h (sym (relays_own d key segment relay.1) ∙ held)

pub reader_reads : (d : Directory) (x : Exchange) (h : Held) (asked : Asked) →
    held_on d role.Customer (key_shown x) (last_segment (string_bytes x.path)) ≡ Ok h →
    h.right ≡ Reading → call_of d x ≡ Ok asked → only_reads (call_in asked) ≡ true
unfolding call_from
reader_reads d x h asked held reader e =
    let short = went_on (guard (nat_le (length x.body.items) most_bytes) BodyTooLong) _ asked e in
    let at = went_on (or_refuse NoRoute (methods_at (string_bytes x.path))) _ asked short.2 in
    let found = went_on (or_refuse WrongMethod (route_of at.0 (string_bytes x.method))) _ asked
    at.2 in
    by_role d (key_shown x) (last_segment (string_bytes x.path)) x.body.items h held reader asked
    found.0.0 found.0.1 found.2
