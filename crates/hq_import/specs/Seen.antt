-- What was noted of the rows before: words of the crate's own functions. No claim rests on them.
-- Inner: it serves proofs alone, and no promise rests on it.
use Rattle.std.specs.Prelude.{◌≡◌, ℕ, Bool, ◌&&◌, List}
use Rattle.std.specs.BTreeSet.{contains_text}
use Rattle.std.specs.List.{list_any}
use Rattle.hq_kept.specs.declared.pattern.Class.{Class}
use Rattle.hq_kept.specs.declared.pattern.Class.TheVariants.{SenderSide, RecipientSide}
use Rattle.hq_kept.specs.declared.pattern.Line.{Line}
use Rattle.hq_kept.specs.declared.account.Customer.{Customer}
use Rattle.hq_kept.specs.Customers.{is_same_text}
use Rattle.hq_import.specs.Directories.{is_name_taken, is_taken}
use Rattle.hq_rules.specs.TableFiles.{is_same_class, is_same_pattern}
use Rattle.hq_import.specs.declared.seen.Seen.{Seen}
use Rattle.hq_import.specs.declared.seen.SeenPatterns.{SeenPatterns}

abbrev pub has : List ℕ → Seen → Bool
has text seen = contains_text seen.texts text

abbrev pub has_pattern : Class × List ℕ → SeenPatterns → Bool
has_pattern (SenderSide, text) seen = has text seen.senders
has_pattern (RecipientSide, text) seen = has text seen.recipients

abbrev pub is_same : Class × List ℕ → Class × List ℕ → Bool
is_same a b = is_same_class a.0 b.0 && is_same_text a.1 b.1

-- the patterns of these lines were noted, and no others
abbrev pub KnowsPatterns : SeenPatterns → List Line → Type 0
KnowsPatterns seen earlier = (pattern : Class × List ℕ) →
    has_pattern pattern seen ≡ list_any (is_same_pattern pattern) earlier

-- the names of these customers were noted, and no others
abbrev pub KnowsNames : Seen → List Customer → Type 0
KnowsNames seen earlier = (name : List ℕ) → has name seen ≡ is_name_taken earlier name

-- the same of their keys
abbrev pub KnowsKeys : Seen → List Customer → Type 0
KnowsKeys seen earlier = (key : List ℕ) → has key seen ≡ is_taken earlier key
