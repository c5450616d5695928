use Rattle.hq_rules.specs.NoticeTexts.{what_follows}
use Rattle.hq_text.proofs.notices.put_what_follows.Goals as goal

pub returns-in-None : goal.returns-in-None
unfolding what_follows
returns-in-None g c = rw c.in-None.is c.put_field.ensures

pub returns-in-Some : goal.returns-in-Some
unfolding what_follows
returns-in-Some g c = rw c.in-Some.is c.put_line.ensures
