use Rattle.std.proofs.Common.{◌≡◌, Some, sym, ap, ◌∙◌}
use Rattle.std.specs.List.{find}
use Rattle.hq_requests.specs.Customers.{has_name}
use Rattle.hq_requests.proofs.Entries.{entry_held}
use Rattle.hq_requests.proofs.directory.Directory.by_relay.Goals as goal

pub returns-in-Some-clause-entry : goal.returns-in-Some-clause-entry
returns-in-Some-clause-entry c =
    let customer = c.in-Some.customer.now in
    let found : find (has_name c.args.segment.now) c.args.self.now.customers ≡ Some customer =
    sym (c.in-Some.ensures ∙ ap (find (has_name c.args.segment.now)) c.as_slice.ensures) in
    entry_held (has_name c.args.segment.now) c.args.self.now.customers customer
    c.in_full.result.caller.entry.now c.args.self.now.apart found c.in_full.ensures.entry
