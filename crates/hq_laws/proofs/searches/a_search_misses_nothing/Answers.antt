use Rattle.hq_rules.specs.Histories.{is_meant}
use Rattle.hq_laws.proofs.Searching.{ends, goes}
use Rattle.hq_laws.proofs.SearchesMoveOn.{goes_less}
use Rattle.hq_laws.proofs.searches.a_search_misses_nothing.Goals as goal

pub returns-clause-last : goal.returns-clause-last
returns-clause-last c = λ pattern es h. ends (is_meant pattern) es h

pub returns-clause-next : goal.returns-clause-next
returns-clause-next c = λ pattern es n first h. goes (is_meant pattern) es n first h

pub returns-clause-moves_on : goal.returns-clause-moves_on
returns-clause-moves_on c = λ pattern es n h. goes_less (is_meant pattern) es n h
