use Rattle.hq_text.proofs.Printed.{host_printed, address_printed, status_printed, text_printed}
use Rattle.hq_text.proofs.laws.values_stand_in_lines.Goals as goal

pub returns-clause-hosts : goal.returns-clause-hosts
returns-clause-hosts c = host_printed

pub returns-clause-addresses : goal.returns-clause-addresses
returns-clause-addresses c = address_printed

pub returns-clause-statuses : goal.returns-clause-statuses
returns-clause-statuses c = status_printed

pub returns-clause-texts : goal.returns-clause-texts
returns-clause-texts c = text_printed
