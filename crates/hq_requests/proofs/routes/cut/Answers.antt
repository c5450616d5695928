use Rattle.hq_requests.proofs.Segment.{segment_from_rsplit}
use Rattle.hq_requests.proofs.routes.cut.Goals as goal

pub returns : goal.returns
returns c = segment_from_rsplit c.args.path.now c.rsplit_once.result c.rsplit_once.ensures.cases
