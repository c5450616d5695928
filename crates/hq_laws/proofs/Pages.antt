-- Each page of a find.
use Rattle.std.proofs.Common.{◌≡◌, ℕ, List, length, Option, Some, refl, filter}
use Rattle.std.specs.Prelude.{take, nat_lt}
use Rattle.hq_kept.specs.declared.pattern.Class.{Class}
use Rattle.std.specs.FinMap.{values}
use Rattle.hq_kept.specs.declared.account.Entry.{Entry}
use Rattle.hq_tables.specs.Readings.{after_serial}
use Rattle.hq_tables.specs.Tables.{State}
use Rattle.hq_rules.specs.Decision.{decide}
use Rattle.hq_rules.specs.Machine.{step}
use Rattle.hq_rules.specs.Selections.{matches}
use Rattle.hq_rules.specs.declared.call.Call.TheVariants as call
use Rattle.hq_rules.specs.declared.answer.Answer.TheVariants as answer

pub paged : (host : List ℕ) (entry : Entry) (s : State) (at : ℕ) (after : Option ℕ)
    (pattern : Class × List ℕ) →
    (let found = filter (matches pattern) (after_serial after (values s.messages)) in
    (step host entry s at (call.List after (Some pattern))).0
    ≡ answer.Listed (take 100 found) (nat_lt 100 (length found)))
unfolding decide
paged host entry s at after pattern = refl
