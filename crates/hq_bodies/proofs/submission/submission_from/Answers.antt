use Rattle.hq_bodies.specs.Submissions.{texts_shown}
use Rattle.hq_bodies.proofs.Submitted.{submission_taken}
use Rattle.hq_bodies.proofs.submission.submission_from.Goals as goal

pub returns : goal.returns
returns g c = submission_taken (texts_shown c.args.fields.now) _ _ _ _ c.in_ok-spool.ensures
    c.in_ok-sender.ensures
