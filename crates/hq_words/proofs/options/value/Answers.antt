use Rattle.hq_words.proofs.Given.{value_in}
use Rattle.hq_words.proofs.options.value.Goals as goal

pub returns : goal.returns
returns c = value_in c.args.given.now c.args.option.now _ c.get_str.ensures
