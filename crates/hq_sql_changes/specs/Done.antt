-- What is done in one transaction, as it is made, and as it is said.
-- Inner: it serves proofs alone, and no promise rests on it.
use Rattle.std.specs.Prelude.{ℕ, List}
use Rattle.hq_tables.specs.Tables.{Tables, write_all}
use Rattle.hq_sql_changes.specs.Accounts.{made_by_all}
use Rattle.hq_sql_changes.specs.Moved.{set_moved}
use Rattle.hq_sql_changes.specs.Dropped.{all_dropped}
use Rattle.hq_sql_changes.specs.OneMoved.{one_set_moved}
use Rattle.hq_sql_changes.specs.declared.work.Work.{Work}
use Rattle.hq_sql_changes.specs.declared.work.Work.TheVariants.{Changes, MoveOne, MoveAll}
use Rattle.hq_sql_changes.specs.declared.work.Work.TheVariants.{DropAllThen}

-- where the counts in the head rows are those of the rows, it is `worked`
abbrev pub made_of : List ℕ → Work → Tables → Tables
made_of customer (Changes changes) t = made_by_all customer changes.now t
made_of customer (MoveOne serial by) t = one_set_moved customer serial by t
made_of customer (MoveAll by) t = set_moved customer by t
made_of customer (DropAllThen more) t = made_by_all customer more.now (all_dropped customer t)

abbrev pub worked : List ℕ → Work → Tables → Tables
worked customer (Changes changes) t = write_all customer changes.now t
worked customer (MoveOne serial by) t = one_set_moved customer serial by t
worked customer (MoveAll by) t = set_moved customer by t
worked customer (DropAllThen more) t = write_all customer more.now (all_dropped customer t)
