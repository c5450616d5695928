use Rattle.std.proofs.Common.{◌≡◌, ◌≢◌, ◌∙◌, ap, refl, true, rules, sym, inr, Option, Some, None}
use Rattle.std.proofs.Common.{List, ℕ, [], ◌∷◌, subst, String, Global}
use Rattle.std.specs.Prelude.{map, string_bytes, option_and_then}
use Rattle.clap.specs.Faults.{fault_of, is_simple_and_free}
use Rattle.clap.specs.Kinds.{HasKind}
use Rattle.clap.specs.Simple.{App, is_simple, subcommand_of}
use Rattle.hq_words.specs.Asked.{Asks}
use Rattle.hq_words.specs.Given.{Given, given_in}
use Rattle.hq_words.specs.Program.{program}
use Rattle.hq_words.proofs.words.read_words.Goals as goal

is_free : is_simple_and_free program ≡ true
is_free = refl

plain : is_simple program ≡ true
plain = refl

some_is_none : (word : List ℕ) (words : List (List ℕ)) → word ∷ words ≡ [] → ⊥
some_is_none word words none = cc

some_words : (words : List (String Global)) → (words ≢ []) →
    map (string_bytes {Z = Global}) words ≢ []
some_words [] some = absurd (some refl)
some_words (word ∷ words) some = λ none. some_is_none _ _ none

pub returns-in-Err-clause-asked : goal.returns-in-Err-clause-asked
returns-in-Err-clause-asked c =
    let words = map (string_bytes {Z = Global}) c.args.words.now in
    let some : words ≢ [] = some_words c.args.words.now (search rules) in
    let is = c.in_ok-program.ensures in
    c.told.ensures words some (subst (λ (a : App). HasKind (fault_of a words) c.in-Err.error) is
    (c.in-Err.ensures.kinds (ap is_simple_and_free is ∙ is_free)))

pub returns-in-Some-clause-asked : goal.returns-in-Some-clause-asked
returns-in-Some-clause-asked c =
    let words = map (string_bytes {Z = Global}) c.args.words.now in
    let some : words ≢ [] = some_words c.args.words.now (search rules) in
    let is = c.in_ok-program.ensures in
    let taken = sym (ap (λ (a : App). fault_of a words) is)
    ∙ c.in-Ok.ensures.kinds (ap is_simple_and_free is ∙ is_free) in
    let rows = (c.in-Ok.ensures.matches (ap is_simple is ∙ plain)).1
    ∙ ap (λ (a : App). subcommand_of a words) is in (
      some,
      taken,
      subst (λ (given : Option Given). Asks given (Some c.in-Some.asked))
          (ap (option_and_then (λ found. given_in found.0 found.1)) rows) (search rules),
    )

pub returns-clause-asked : goal.returns-clause-asked
returns-clause-asked c =
    let words = map (string_bytes {Z = Global}) c.args.words.now in
    let some : words ≢ [] = some_words c.args.words.now (search rules) in
    let is = c.in_ok-program.ensures in
    let taken = sym (ap (λ (a : App). fault_of a words) is)
    ∙ c.in-Ok.ensures.kinds (ap is_simple_and_free is ∙ is_free) in
    let rows = (c.in-Ok.ensures.matches (ap is_simple is ∙ plain)).1
    ∙ ap (λ (a : App). subcommand_of a words) is in (
      some,
      inr (
        taken,
        subst (λ (given : Option Given). Asks given None)
            (ap (option_and_then (λ found. given_in found.0 found.1)) rows) (search rules),
      ),
    )
