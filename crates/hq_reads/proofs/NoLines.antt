-- Where a customer has no line, none is found.
use Rattle.std.proofs.Common.{◌≡◌, ℕ, List, [], ◌∷◌, map, Option, None, refl, ap, ◌∙◌}
use Rattle.std.specs.Prelude.{option_map}
use Rattle.hq_values.specs.declared.address.Sender.{Sender}
use Rattle.hq_values.specs.declared.address.Sender.TheVariants.{From}
use Rattle.hq_kept.specs.Keys.{keys_of}
use Rattle.hq_rules.specs.Lookups.{first_match, or_next}
use Rattle.hq_kept.specs.declared.action.Action.{Action}
use Rattle.hq_kept.specs.declared.pattern.Class.{Class}
use Rattle.hq_kept.specs.declared.pattern.Class.TheVariants.{RecipientSide}
use Rattle.hq_tables.specs.Readings.{read_tables}
use Rattle.hq_tables.specs.Tables.{Tables}
use Rattle.hq_isolation.proofs.Read.{no_line}
use Rattle.hq_rules.specs.AccessLines.{found_for}
use Rattle.hq_rules.specs.Submissions.{with_action}

none_first : (line : List ℕ → Option Action) → ((key : List ℕ) → line key ≡ None) →
    (keys : List (List ℕ)) → first_match line keys ≡ None
none_first line none [] = refl
none_first line none (key ∷ keys) = ap (λ found. or_next key found (first_match line keys))
    (none key) ∙ none_first line none keys

-- nothing is found for anyone
pub nobody_found : (customer : List ℕ) (t : Tables) (class : Class) (who : Sender) →
    (read_tables customer t).counts.lines ≡ 0 → found_for (read_tables customer t) class who ≡ None
nobody_found customer t class who none =
    none_first ((read_tables customer t).line class) (λ key. no_line customer t class key none)
    (keys_of who)

-- and no recipient has an action
pub no_actions : (customer : List ℕ) (t : Tables) (recipients : List (List ℕ)) →
    (read_tables customer t).counts.lines ≡ 0 →
    map (with_action (read_tables customer t)) recipients ≡ map (λ a. (a, None)) recipients
no_actions customer t [] none = refl
no_actions customer t (a ∷ recipients) none =
    (λ i. (a, option_map (λ found. found.1) (nobody_found customer t RecipientSide (From a) none i))
    ∷ no_actions customer t recipients none i)
