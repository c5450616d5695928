use Rattle.std.proofs.Common.{◌+◌, ◌*◌, length}
use Rattle.hq_sql_open.proofs.create.+creating.Given as goal

abbrev pub decreases-create_from : goal.decreases-create_from
decreases-create_from g l = 2 * length l.rest.now + 1

abbrev pub decreases-create_all : goal.decreases-create_all
decreases-create_all g l = 2 * length l.texts.now
