-- What a customer is told of its use of the desk and of its queue. Members stand in the order of
-- their names.
use Rattle.std.specs.Prelude.{ℕ, List, [], ◌∷◌, codes}
use Rattle.serde_json.specs.Data.{Data, string}
use Rattle.hq_rules.specs.declared.answer.Allowance.{Allowance}
use Rattle.hq_rules.specs.declared.answer.Usage.{Usage}
use Rattle.hq_json.specs.Objects.{having, count}

-- what it keeps, and its recipients by what became of them
abbrev pub used : Usage → Data
used u = having (
    (codes "accepted", count u.tally.accepted) ∷
    (codes "bytes", count u.counts.bytes) ∷
    (codes "deleted", count u.tally.deleted) ∷
    (codes "delivered", count u.tally.delivered) ∷
    (codes "expired", count u.tally.expired) ∷
    (codes "failed", count u.tally.failed) ∷
    (codes "lines", count u.counts.lines) ∷
    (codes "messages", count u.counts.messages) ∷
    (codes "pending", count u.pending) ∷
    [])

-- how much it may keep
abbrev pub allowed : Allowance → Data
allowed most = having (
    (codes "bytes", count most.bytes) ∷
    (codes "delay", count most.delay) ∷
    (codes "history", count most.history) ∷
    (codes "lines", count most.lines) ∷
    (codes "messages", count most.messages) ∷
    (codes "notices", count most.notices) ∷
    [])

-- the queue report as one text
abbrev pub report_json : List ℕ → Data
report_json text = having ((codes "report", string text) ∷ [])
