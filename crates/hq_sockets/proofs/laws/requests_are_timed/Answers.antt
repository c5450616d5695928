use Rattle.hq_sockets.proofs.laws.requests_are_timed.Goals as goal

pub returns : goal.returns
returns g c = λ old new events timed so. (so.1.1 timed).0
