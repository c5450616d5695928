-- What is taken of the rows of an answer, which are lent one after another.
-- Inner: it serves proofs alone, and no promise rests on it.
use Rattle.std.specs.Prelude.{ℕ, List}
use Rattle.std.specs.List.{FoldsTo}
use Rattle.sqlite.specs.Order.{Row}
use Rattle.sqlite.specs.Given.{IsPlain}
use Rattle.sqlite.specs.Listing.{understood}
use Rattle.sqlite.specs.State.{State, Shown}
use Rattle.hq_schema.specs.Schema.{desk_schema}

-- the text is a query on the tables of the desk
pub record IsQuery (text : List ℕ) : Type 0 where
  pub plain : IsPlain (understood desk_schema text)

-- all rows of the answer were taken, one after another
pub record TakesAll {T : Type 0} (takes : T → Row → T → Type 0) (text : List ℕ) (params : Row)
    (old new : State) (first last : T) : Type 0 where
  pub rows : List Row
  pub shown : Shown text params old new rows
  pub taken : FoldsTo takes first rows last
