use Rattle.std.proofs.Common.{List, ap}
use Rattle.hq_tables.specs.Readings.{read_state}
use Rattle.hq_tables.specs.Tables.{change_all}
use Rattle.hq_tables.specs.declared.change.Change.{Change}
use Rattle.hq_rules.specs.Unchanged.{tells_no_change}
use Rattle.hq_rules.proofs.Unchanged.{no_changes, reading_has_none, used_label_has_none}
use Rattle.hq_rules.proofs.laws.state_is_left.Goals as goal

pub returns-clause-refused : goal.returns-clause-refused
returns-clause-refused c = λ host entry s at call refusal refused.
    ap (λ (cs : List Change). change_all cs s)
    (no_changes host entry (read_state s) at call (ap tells_no_change refused))

pub returns-clause-reads : goal.returns-clause-reads
returns-clause-reads c = λ host entry s at call reads.
    ap (λ (cs : List Change). change_all cs s)
    (reading_has_none host entry (read_state s) at call reads)

pub returns-clause-told : goal.returns-clause-told
returns-clause-told c = λ host entry s at call told.
    ap (λ (cs : List Change). change_all cs s) (no_changes host entry (read_state s) at call told)

pub returns-clause-used : goal.returns-clause-used
returns-clause-used c = λ host entry s at label file mark used.
    ap (λ (cs : List Change). change_all cs s)
    (used_label_has_none host entry (read_state s) at label file mark used)
