use Rattle.hq_laws.proofs.Envelopes.{envelope_too}
use Rattle.hq_laws.proofs.Replies.{without}
use Rattle.hq_laws.proofs.submissions.an_envelope_is_its_submission_in_short.Goals as goal

pub returns-clause-body : goal.returns-clause-body
returns-clause-body c = envelope_too

pub returns-clause-reply : goal.returns-clause-reply
returns-clause-reply c = without
