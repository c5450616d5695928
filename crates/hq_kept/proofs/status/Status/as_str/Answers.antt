use Rattle.std.proofs.Common.{◌≡◌, true, take, rules}
use Rattle.hq_kept.specs.Statuses.{is_status}
use Rattle.hq_kept.proofs.Forms.{status_utf8}
use Rattle.hq_kept.proofs.status.Status.as_str.Goals as goal

pub unreachable-requires : goal.unreachable-requires
unreachable-requires c =
    let form : is_status (take c.self.inside.len c.self.inside.bytes) ≡ true = search rules in
    c.in-Err.ensures.cases.0 (status_utf8 (take c.self.inside.len c.self.inside.bytes) form)
