use Rattle.hq_values.proofs.QueueIds.{text_of_read, read_of_text}
use Rattle.hq_values.proofs.laws.queue_ids_are_inverse.Goals as goal

pub returns-clause-read : goal.returns-clause-read
returns-clause-read c = read_of_text

pub returns-clause-written : goal.returns-clause-written
returns-clause-written c = λ text n is. (text_of_read text n is).0
