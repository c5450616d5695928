use Rattle.std.proofs.Common.{◌≡◌, Some, refl, rules}
use Rattle.std.specs.List.{find}
use Rattle.hq_requests.specs.Customers.{has_name}
use Rattle.hq_requests.proofs.Entries.{entry_held}
use Rattle.hq_requests.proofs.directory.Directory.named_holder.Goals as goal

pub returns-clause-entry : goal.returns-clause-entry
returns-clause-entry c =
    let customer = c.in_ok-customer.customer.now in
    let name = c.in_ok-named.named.now.customer in
    let found : find (has_name name) c.args.self.now.customers ≡ Some customer = search rules in
    entry_held (has_name name) c.args.self.now.customers customer customer.entry
    c.args.self.now.apart found refl
