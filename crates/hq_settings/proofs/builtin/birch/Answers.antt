use Rattle.std.proofs.Common.{rules}
use Rattle.hq_settings.proofs.Customers.{same_customer}
use Rattle.hq_settings.proofs.builtin.birch.Goals as goal

pub returns : goal.returns
returns c = same_customer _ _ _ _ _ _ _ _ _ _ _ _ _ _ _ _ (search rules) (search rules)
