use Rattle.sqlite.specs.Held.{state}
use Rattle.hq_sql_changes.proofs.Reasoned.{Reasoned}
use Rattle.hq_sql_changes.proofs.sets.give_each.Given as goal

-- those before this one have the reason
abbrev pub invariant-loop-serial : goal.invariant-loop-serial
invariant-loop-serial g l = Reasoned (state g.S.Store l.fn.conn) (state g.S.Store l.conn) l.customer
    l.reason l.serials l.serial-index
