-- What a change makes of the lists.
-- Inner: it serves proofs alone, and no promise rests on it.
use Rattle.std.specs.Prelude.{◌≡◌, ℕ, List}
use Rattle.hq_tables.specs.Tables.{write}
use Rattle.hq_tables.specs.declared.change.Change.{Change}
use Rattle.hq_lists.specs.declared.list_rows.ListRows.{ListRows}
use Rattle.hq_lists.specs.Heads.{heads_listed, heads_after, beside_heads}
use Rattle.hq_lists.specs.Lists.{tables_of}

-- its heads, and its rows of all other tables
pub record IsMade (customer : List ℕ) (change : Change) (old new : ListRows) : Type 0 where
  pub heads : heads_listed new.heads.items ≡ heads_after customer change
      (heads_listed old.heads.items)
  pub others : beside_heads (tables_of new) ≡ beside_heads (write customer change (tables_of old))
