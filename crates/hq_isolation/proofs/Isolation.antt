-- What a call answers and leaves, to the caller and to everyone else.
use Rattle.std.proofs.Common.{◌≡◌, ◌≢◌, ℕ, List, ap, ◌∙◌}
use Rattle.hq_kept.specs.declared.account.Entry.{Entry}
use Rattle.hq_tables.specs.Readings.{Readings, read_tables}
use Rattle.hq_tables.specs.Tables.{Tables, own, change_all}
use Rattle.hq_isolation.proofs.Own.{own_write_all, other_write_all}
use Rattle.hq_isolation.proofs.Read.{same_readings}
use Rattle.hq_rules.specs.declared.call.Call.{Call}
use Rattle.hq_rules.specs.Decision.{decide}
use Rattle.hq_rules.specs.Machine.{step, shared}

-- the caller is told and keeps what the machine of one customer says
pub caller : (host : List ℕ) (entry : Entry) (t : Tables) (at : ℕ) (call : Call) →
    ((shared host entry t at call).0, own entry.name (shared host entry t at call).1) ≡ step host
    entry (own entry.name t) at call
caller host entry t at call =
    let of = λ (r : Readings). decide host entry r at call in
    ap (λ s. ((of (read_tables entry.name t)).answer, s))
    (own_write_all entry.name (of (read_tables entry.name t)).changes t)
    ∙ ap (λ r. ((of r).answer, change_all (of r).changes (own entry.name t)))
    (same_readings entry.name t)

-- nobody else notices
pub others : (host : List ℕ) (entry : Entry) (t : Tables) (at : ℕ) (call : Call) (other : List ℕ) →
    other ≢ entry.name → own other (shared host entry t at call).1 ≡ own other t
others host entry t at call other apart =
    other_write_all entry.name other (decide host entry (read_tables entry.name t) at call).changes
    t apart
