use Rattle.std.proofs.Common.{◌++◌, subst}
use Rattle.hq_http.specs.Stages.{StepIs}
use Rattle.hq_http.proofs.gathering.Gathering.more.Goals as goal

pub returns-in-Ok-Open : goal.returns-in-Ok-Open
returns-in-Ok-Open g c = λ bytes so. subst (StepIs (bytes ++ c.args.chunk.now))
    c.in-Ok-Open.field-0-is (c.in-Ok-Open.ensures bytes so)

pub returns-in-Ok-Refused : goal.returns-in-Ok-Refused
returns-in-Ok-Refused g c = λ bytes so. subst (StepIs (bytes ++ c.args.chunk.now))
    c.in-Ok-Refused.field-0-is (c.in-Ok-Refused.ensures bytes so)

pub returns-in-Ok-Whole : goal.returns-in-Ok-Whole
returns-in-Ok-Whole g c = λ bytes so. subst (StepIs (bytes ++ c.args.chunk.now))
    c.in-Ok-Whole.field-0-is (c.in-Ok-Whole.ensures bytes so)

pub returns-in-Err : goal.returns-in-Err
returns-in-Err g c = λ bytes so. c.in-Err.ensures bytes so
