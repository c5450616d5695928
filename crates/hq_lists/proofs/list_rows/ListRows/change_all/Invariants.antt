use Rattle.std.proofs.Common.{◌≡◌, drop}
use Rattle.hq_tables.specs.Tables.{write_all}
use Rattle.hq_tables.specs.Sound.{AreCounted}
use Rattle.hq_lists.specs.Lists.{tables_of, AreInOrder}
use Rattle.hq_lists.proofs.list_rows.ListRows.change_all.Given as goal

-- what is left to change leads to the end
abbrev pub invariant-loop-change : goal.invariant-loop-change
invariant-loop-change g l = record {
  made : AreCounted (tables_of l.fn.self) → write_all l.customer (drop l.change-index l.changes)
      (tables_of l.self) ≡ write_all l.customer l.changes (tables_of l.fn.self);
  counted : AreCounted (tables_of l.fn.self) → AreCounted (tables_of l.self);
  order : AreInOrder l.fn.self → AreInOrder l.self;
}
