use Rattle.hq_tables.proofs.Empty.{empty_sound}
use Rattle.hq_sql_across.proofs.laws.empty_tables_are_sound.Goals as goal

pub returns : goal.returns
returns c = empty_sound
