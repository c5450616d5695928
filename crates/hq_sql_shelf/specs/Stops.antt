-- What a crash may leave of a call of the shelf. `old` and `new` are what is seen of the connection
-- before and after.
use Rattle.std.specs.Prelude.{◌≡◌, ◌⊎◌}
use Rattle.sqlite.specs.State.{State, HasCleanDisk}
use Rattle.sqlite.specs.Tree.{Trees}
use Rattle.hq_tables.specs.Tables.{Tables}
use Rattle.hq_sql_open.specs.Found.{tables_with}
use Rattle.hq_sql_shelf.specs.Shelf.{IsWholeDesk}

-- Wherever in a call a crash comes, it leaves a desk with the tables before or with those after.
abbrev pub LeavesWhole : State → State → Tables → Tables → Type 0
LeavesWhole old new before after = HasCleanDisk new → (db : Trees) → new.may_leave db →
    IsWholeDesk db × ((tables_with db ≡ before) ⊎ (tables_with db ≡ after))

-- Once a call has answered, a crash leaves a desk with these tables alone.
abbrev pub LeavesOnly : State → Tables → Type 0
LeavesOnly new t = (db : Trees) → new.may_leave db → IsWholeDesk db × (tables_with db ≡ t)
