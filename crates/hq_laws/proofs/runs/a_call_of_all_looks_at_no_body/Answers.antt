use Rattle.hq_laws.proofs.Unread.{same_asked}
use Rattle.hq_laws.proofs.runs.a_call_of_all_looks_at_no_body.Goals as goal

pub returns : goal.returns
returns c = λ d method path key methods body other at is short also.
    same_asked d method path key methods body other at is short also
