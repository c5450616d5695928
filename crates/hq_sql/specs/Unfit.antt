-- Values that the desk does not write. Where a row holds one, or a statement is to take one, the
-- store failed (`SqliteMemory`).
-- Inner: it serves proofs alone, and no promise rests on it.
use Rattle.std.specs.Prelude.{◌≡◌, ◌≢◌, ℕ, ◌<◌, ◌≤◌, ◌^◌, List, [], None, Ok, IsErr}
use Rattle.hq_values.specs.Addresses.{address_in}
use Rattle.hq_values.specs.Senders.{sender_in}
use Rattle.hq_values.specs.Words.{spool_in, label_in, text_in}
use Rattle.hq_kept.specs.Patterns.{class_in, pattern_in}
use Rattle.hq_kept.specs.Statuses.{status_in}
use Rattle.hq_sql.specs.declared.unfit.Form.{Form}
use Rattle.hq_sql.specs.declared.unfit.Form.TheVariants.{Address, Class, Label, Pattern, Sender}
use Rattle.hq_sql.specs.declared.unfit.Form.TheVariants.{Spool, Status, Text}
use Rattle.hq_sql.specs.declared.unfit.Limits.{Limits}
use Rattle.hq_sql.specs.declared.unfit.Limits.TheVariants.{Column, Serials, Moments, States, Kinds}
use Rattle.hq_sql.specs.declared.unfit.Limits.TheVariants.{Fates, Places, DigestBytes, UpTo}

-- no value of this form is written so; the empty text stands for no status
abbrev pub IsNoneOf : Form → List ℕ → Type 0
IsNoneOf Address text = IsErr (address_in text)
IsNoneOf Sender text = IsErr (sender_in text)
IsNoneOf Spool text = IsErr (spool_in text)
IsNoneOf Label text = IsErr (label_in text)
IsNoneOf Text text = IsErr (text_in text)
IsNoneOf Status text = (text ≢ []) × IsErr (status_in text)
IsNoneOf Class text = class_in text ≡ None
IsNoneOf (Pattern class) text = pattern_in class text ≢ Ok (class, text)

-- the number is none of these
abbrev pub IsOutside : Limits → ℕ → Type 0
IsOutside Column n = 2 ^ 63 ≤ n
IsOutside Serials n = ¬ ((0 < n) × (n < 2 ^ 40))
IsOutside Moments n = 4102444799 < n
IsOutside States n = 2 < n
IsOutside Kinds n = 1 < n
IsOutside Fates n = 3 < n
IsOutside Places n = 2 ^ 32 ≤ n
IsOutside DigestBytes n = n ≢ 32
IsOutside (UpTo last) n = last < n
