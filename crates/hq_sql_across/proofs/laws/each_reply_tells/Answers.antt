use Rattle.hq_sql_across.proofs.Replied.{replied}
use Rattle.hq_sql_across.proofs.laws.each_reply_tells.Goals as goal

pub returns : goal.returns
returns c = replied
