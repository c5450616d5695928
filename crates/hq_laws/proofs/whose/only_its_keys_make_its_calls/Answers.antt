use Rattle.hq_laws.proofs.Relays.{all_of_relay, of_relay}
use Rattle.hq_laws.proofs.Showing.{may_call}
use Rattle.hq_laws.proofs.whose.only_its_keys_make_its_calls.Goals as goal

pub returns-clause-one : goal.returns-clause-one
returns-clause-one c = may_call

pub returns-clause-relays : goal.returns-clause-relays
returns-clause-relays c = of_relay

pub returns-clause-all : goal.returns-clause-all
returns-clause-all c = all_of_relay
