use Rattle.std.proofs.Common.{sym}
use Rattle.std.proofs.lemmas.List.{drop_all, take_all}
use Rattle.hq_requests.proofs.spans.first_and_rest.Goals as goal

pub returns-then-customers-le-MOST_ASKED-clause-first :
    goal.returns-then-customers-le-MOST_ASKED-clause-first
returns-then-customers-le-MOST_ASKED-clause-first c =
    sym (take_all 100 c.args.customers.now c.if-customers-le-MOST_ASKED.true)

pub returns-then-customers-le-MOST_ASKED-clause-rest :
    goal.returns-then-customers-le-MOST_ASKED-clause-rest
returns-then-customers-le-MOST_ASKED-clause-rest c =
    sym (drop_all 100 c.args.customers.now c.if-customers-le-MOST_ASKED.true)
