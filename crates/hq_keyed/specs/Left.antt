-- What a call leaves of a connection.
use Rattle.std.specs.Prelude.{◌⊎◌, ◌≤◌}
use Rattle.sqlite_trees.specs.View.{doubt}
use Rattle.sqlite.specs.State.{State, HasCleanDisk, IsUnchanged, IsRolledBack}
use Rattle.sqlite.specs.Tree.{Trees}

-- as it was, or with its transaction undone
unfoldable pub IsLeft : State → State → Type 0
IsLeft old new = IsUnchanged old new ⊎ IsRolledBack old new

-- a connection that is not clean stays so
abbrev pub IsQuiet : State → State → Type 0
IsQuiet old new = doubt old.is_clean ≤ doubt new.is_clean

-- what an open after a crash may find, it might have found before
abbrev pub LeavesNoMore : State → State → Type 0
LeavesNoMore old new = HasCleanDisk new → (db : Trees) → new.may_leave db → old.may_leave db
