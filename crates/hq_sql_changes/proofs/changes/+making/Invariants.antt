use Rattle.std.proofs.Common.{◌+◌, ◌*◌, length}
use Rattle.hq_sql_changes.proofs.changes.+making.Given as goal

abbrev pub decreases-make : goal.decreases-make
decreases-make g l = 2

abbrev pub decreases-make_all : goal.decreases-make_all
decreases-make_all g l = 4 * length l.changes.now

abbrev pub decreases-make_behind_head : goal.decreases-make_behind_head
decreases-make_behind_head g l = 4 * length l.rest.now + 1

abbrev pub decreases-make_behind_drop : goal.decreases-make_behind_drop
decreases-make_behind_drop g l = 4 * length l.rest.now + 1

abbrev pub decreases-make_behind_line : goal.decreases-make_behind_line
decreases-make_behind_line g l = 4 * length l.rest.now + 1

abbrev pub decreases-make_owing : goal.decreases-make_owing
decreases-make_owing g l = 4 * length l.changes.now

abbrev pub decreases-make_owing_from : goal.decreases-make_owing_from
decreases-make_owing_from g l = 4 * length l.rest.now + 3
