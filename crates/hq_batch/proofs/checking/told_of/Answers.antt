use Rattle.std.proofs.Common.{rules, Ok, Err}
use Rattle.hq_batch.proofs.checking.told_of.Goals as goal

pub returns-in_err-count : goal.returns-in_err-count
returns-in_err-count g c file read = (
  Err c.in_err-count.field-0.0,
  c.in_err-count.ensures file read,
  search rules,
)

pub returns : goal.returns
returns g c file read = (
  Ok c.in_ok-count.count,
  c.in_ok-count.ensures file read,
  c.count_told.ensures,
)
