use Rattle.hq_json.proofs.OneLine.{answer_one_line}
use Rattle.hq_json.proofs.laws.answers_are_one_line.Goals as goal

pub returns : goal.returns
returns c = answer_one_line
