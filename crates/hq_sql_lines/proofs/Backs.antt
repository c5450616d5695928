-- A line can be read back from its columns.
use Rattle.std.proofs.Common.{◌≡◌, ℕ, ℤ, Bool, true, false, List, [], ◌∷◌, Ok, refl}
use Rattle.hq_values.specs.Readers.{checked}
use Rattle.hq_values.specs.declared.failure.Refusal.TheVariants.{BadPattern}
use Rattle.hq_values.specs.Addresses.{folded}
use Rattle.hq_kept.specs.Actions.{action_text}
use Rattle.hq_kept.specs.Patterns.{class_name, is_pattern, pattern_in}
use Rattle.hq_kept.specs.declared.action.Action.{Action}
use Rattle.hq_kept.specs.declared.action.Action.TheVariants.{Okay, Reject, Defer, Dunno, Discard}
use Rattle.hq_kept.specs.declared.action.Action.TheVariants.{Hold, Redirect}
use Rattle.hq_kept.specs.declared.pattern.Class.{Class}
use Rattle.hq_kept.specs.declared.pattern.Class.TheVariants.{SenderSide, RecipientSide}
use Rattle.hq_rows.specs.declared.rows.LineRow.{LineRow}
use Rattle.hq_sql.specs.Rows.{class_of, action_of, line_stored, line_read}

class_back : (c : Class) → class_of (class_name c) ≡ c
class_back SenderSide = refl
class_back RecipientSide = refl

action_back : (a : Action) → action_of (action_text a) ≡ a
action_back (Okay []) = refl
action_back (Okay (b ∷ text)) = refl
action_back (Reject []) = refl
action_back (Reject (b ∷ text)) = refl
action_back (Defer []) = refl
action_back (Defer (b ∷ text)) = refl
action_back (Dunno []) = refl
action_back (Dunno (b ∷ text)) = refl
action_back (Discard []) = refl
action_back (Discard (b ∷ text)) = refl
action_back (Hold []) = refl
action_back (Hold (b ∷ text)) = refl
action_back (Redirect []) = refl
action_back (Redirect (b ∷ text)) = refl

pub line_back : (r : LineRow) (n : ℤ) → line_read (line_stored (n, r)) ≡ r
line_back r n = λ i. record {
  customer = r.customer;
  line =
      record {
        pattern = (class_back r.line.pattern.0 i, r.line.pattern.1);
        action = action_back r.line.action i;
      };
}

-- a pattern that was read has the class that it was read for
pub parsed_class : (class : Class) (text : List ℕ) (p : Class × List ℕ) →
    pattern_in class text ≡ Ok p → p.0 ≡ class
parsed_class class text p h = go (is_pattern class (folded text)) h
  where
    go : (b : Bool) → checked (class, folded text) b BadPattern ≡ Ok p → p.0 ≡ class
    go true e = cc
    go false e = cc
