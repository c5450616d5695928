-- A call of all customers asks the same whatever its body is.
use Rattle.std.proofs.Common.{◌≡◌, ℕ, Bool, true, List, Option, Some, Result, Ok, Err, refl, sym}
use Rattle.std.proofs.Common.{◌∙◌, subst}
use Rattle.std.specs.Prelude.{length, nat_le}
use Rattle.hq_values.specs.Limits.{most_bytes}
use Rattle.hq_values.specs.Readers.{◌>>=◌, guard, or_refuse}
use Rattle.hq_values.specs.declared.failure.Refusal.{Refusal}
use Rattle.hq_values.specs.declared.failure.Refusal.TheVariants.{BodyTooLong, NoRoute, WrongMethod}
use Rattle.hq_requests.specs.Calls.{Asked, asked_as, call_from}
use Rattle.hq_requests.specs.Routes.{last_segment, methods_at, role_of, route_of}
use Rattle.hq_requests.specs.declared.directory.Directory.{Directory}
use Rattle.hq_requests.specs.declared.table.Methods.{Methods}
use Rattle.hq_requests.specs.declared.table.Role.{Role}
use Rattle.hq_requests.specs.declared.table.Role.TheVariants as role
use Rattle.hq_requests.specs.declared.table.Route.{Route}
use Rattle.hq_requests.proofs.Whose.{role_kept}

module _ (d : Directory) (method path : List ℕ) (key : Option (List ℕ)) where
  abbrev asked_for : List ℕ → Role × Route → Result Asked Refusal
  asked_for body asked = asked_as d asked.0 asked.1 key (last_segment path) body

  -- what is asked, by whether the body is short and by the methods of the path
  abbrev asked_by : Bool → Option Methods → List ℕ → Result Asked Refusal
  asked_by short at body = guard short BodyTooLong >>= (λ nothing. or_refuse NoRoute at
      >>= (λ methods. or_refuse WrongMethod (route_of methods method) >>= asked_for body))

  of_all : (body other : List ℕ) (asked : Role × Route) → role.RelayForAll ≡ asked.0 →
      asked_for body asked ≡ asked_for other asked
  of_all body other asked is =
      subst (λ (r : Role). asked_for body (r, asked.1) ≡ asked_for other (r, asked.1)) is refl

  by_route : (body other : List ℕ) (found : Result (Role × Route) Refusal) →
      ((asked : Role × Route) → found ≡ Ok asked → role.RelayForAll ≡ asked.0) →
      (found >>= asked_for body) ≡ (found >>= asked_for other)
  by_route body other (Ok asked) kept = of_all body other asked (kept asked refl)
  by_route body other (Err why) kept = refl

  pub same_asked : (methods : Methods) (body other : List ℕ) → methods_at path ≡ Some methods →
      role_of methods ≡ role.RelayForAll → nat_le (length body) most_bytes ≡ true →
      nat_le (length other) most_bytes ≡ true →
      call_from d method path key body ≡ call_from d method path key other
  unfolding call_from
  same_asked methods body other at is short also =
      let same : asked_by true (Some methods) body ≡ asked_by true (Some methods) other =
      by_route body other (or_refuse WrongMethod (route_of methods method))
      (λ asked h. sym is ∙ role_kept methods method asked h) in
      (λ i. asked_by (short i) (at i) body) ∙ same ∙ sym (λ i. asked_by (also i) (at i) other)
