use Rattle.hq_values.proofs.Alike.{same_is}
use Rattle.hq_values.proofs.address.are_same.Goals as goal

pub returns-clause-test : goal.returns-clause-test
returns-clause-test c =
    same_is c.eq_ignore_ascii_case.result c.args.one.now c.args.other.now
    c.eq_ignore_ascii_case.ensures.test
