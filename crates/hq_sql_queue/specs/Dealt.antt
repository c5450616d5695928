-- Rows dealt to the messages of a page by their serials, as they come.
-- Inner: it serves proofs alone, and no promise rests on it.
use Rattle.std.specs.Prelude.{◌≡◌, ℕ, zero, suc, ◌-◌, ◌<◌, ◌≤◌, length, ◌==◌}
use Rattle.std.specs.Prelude.{List, [], ◌∷◌, map, Some, slice_get, if◌then◌else◌}
use Rattle.std.specs.List.{filter, fold}
use Rattle.sqlite.specs.Order.{Row, column}
use Rattle.sqlite.specs.State.{State, Shown}
use Rattle.sqlite_trees.specs.Tree.{IsAscending}
use Rattle.hq_kept.specs.declared.message.Message.{Message}
use Rattle.hq_sql.specs.Rows.{value_number}

-- ---- pages

abbrev pub serials_of : List Message → List ℕ
serials_of page = map (λ (m : Message). m.serial) page

-- the numbers strictly rise
abbrev pub Rise : List ℕ → Type 0
Rise = IsAscending (λ a b. a < b)

-- the serials of the first message and of the last
pub record Spans (page : List Message) (low high : ℕ) : Type 0 where
  pub first : slice_get (serials_of page) 0 ≡ Some low
  pub last : slice_get (serials_of page) (length page - 1) ≡ Some high

-- ---- one row

-- the serial of the message that a row is of: in each table the second column
abbrev pub row_serial : Row → ℕ
row_serial r = value_number (column r 1)

-- f of the message, if it has this serial
abbrev pub dealt_one : ℕ → (Message → Message) → Message → Message
dealt_one serial f m = if m.serial == serial then f m else m

-- f of the element at this place, where there is one
abbrev pub at_place : {A : Type 0} → (A → A) → List A → ℕ → List A
at_place f [] place = []
at_place f (x ∷ xs) zero = f x ∷ xs
at_place f (x ∷ xs) (suc place) = x ∷ at_place f xs place

-- from `from` on the first place of a serial that is not below
pub record IsPlaceFrom (serials : List ℕ) (from serial place : ℕ) : Type 0 where
  pub passed : (k n : ℕ) → from ≤ k → k < place → slice_get serials k ≡ Some n → n < serial
  pub there : (n : ℕ) → slice_get serials place ≡ Some n → serial ≤ n

-- a row gives to its message, sought from the place of the last one on
pub record Deals (give : Row → Message → Message) (before : List Message) (from : ℕ) (r : Row)
    (after : List Message) (place : ℕ) : Type 0 where
  pub place_is : IsPlaceFrom (serials_of before) from (row_serial r) place
  pub dealt : after ≡ at_place (dealt_one (row_serial r) (give r)) before place

-- ---- all rows

-- the message with what all rows of its serial give
abbrev pub dealt_rows : (Row → Message → Message) → List Row → Message → Message
dealt_rows give rows m = fold (λ x r. give r x) m (filter (λ r. m.serial == row_serial r) rows)

-- no serial is below that of an earlier row
abbrev pub InOrder : List Row → Type 0
InOrder = IsAscending (λ a b. row_serial a ≤ row_serial b)

-- the rows of an answer are dealt to the messages of a page
pub record DealsAll (give : Row → Message → Message) (text : List ℕ) (params : Row)
    (old new : State) (before after : List Message) : Type 0 where
  pub rows : List Row
  pub shown : Shown text params old new rows
  pub dealt : Rise (serials_of before) → InOrder rows → after ≡ map (dealt_rows give rows) before
