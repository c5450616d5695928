use Rattle.std.proofs.Common.{length}
use Rattle.hq_words.proofs.command.+with_words.Given as goal

abbrev pub decreases-with_words : goal.decreases-with_words
decreases-with_words l = length l.rows.now
