use Rattle.hq_sql_open.proofs.Lifted.{tables_lifted}
use Rattle.hq_sql_open.proofs.laws.lifted_tables_are_sound.Goals as goal

pub returns : goal.returns
returns c = tables_lifted
