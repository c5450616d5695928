use Rattle.hq_requests.specs.Spans.{from_start}
use Rattle.hq_laws.proofs.Asked.{asks_few, asks_some}
use Rattle.hq_laws.proofs.Hundreds.{all_asked, goes_on}
use Rattle.hq_laws.proofs.whose.hundreds_ask_everyone_once.Goals as goal

pub returns-clause-last : goal.returns-clause-last
returns-clause-last c = all_asked

pub returns-clause-next : goal.returns-clause-next
returns-clause-next c = goes_on

pub returns-clause-some : goal.returns-clause-some
returns-clause-some c = λ d start first more h.
    asks_some (from_start start d.customers) first more h

pub returns-clause-few : goal.returns-clause-few
returns-clause-few c = λ d start. asks_few 100 (from_start start d.customers)
