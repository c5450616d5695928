-- What a decision leaves of a sound state, and what the quota of an entry says.
use Rattle.std.proofs.Common.{◌≡◌, ℕ, ◌^◌, ◌<◌, ◌≤◌, false, None, arith}
use Rattle.std.specs.Prelude.{IsTrue, nat_le}
use Rattle.std.specs.FinMap.{get, len}
use Rattle.std.proofs.lemmas.Bool.Decides.{nat_tests}
use Rattle.hq_kept.specs.Limits.{is_quota}
use Rattle.hq_kept.specs.declared.account.Entry.{Entry}
use Rattle.hq_tables.specs.Readings.{saturated}
use Rattle.hq_tables.specs.Sound.{SoundState}
use Rattle.hq_tables.specs.Tables.{State, change, change_all}
use Rattle.hq_kept.specs.declared.pattern.Line.{Line}
use Rattle.hq_tables.specs.declared.change.Change.TheVariants.{PutLine}
use Rattle.hq_isolation.proofs.States.{change_shaped}
use Rattle.hq_rules.specs.declared.decision.Decision.{Decision}

-- what a decision leaves of a state is sound
abbrev pub Keeps : State → Decision → Type 0
Keeps s decision = SoundState (change_all decision.changes s)

-- a sum below the greatest number is not cut
pub saturated_is : (n : ℕ) → n < 2 ^ 63 → saturated n ≡ n
saturated_is n h = omega arith

quota_within : (messages bytes lines notices : ℕ) → IsTrue (is_quota messages bytes lines notices) →
    (messages ≤ 1000) × (lines ≤ 5000)
quota_within messages bytes lines notices h = (grind (arith, nat_tests), grind (arith, nat_tests))

-- at most 1,000 messages and 5,000 lines
pub quota_of : (entry : Entry) → (entry.quota.messages ≤ 1000) × (entry.quota.lines ≤ 5000)
quota_of entry =
    quota_within entry.quota.messages entry.quota.bytes entry.quota.lines entry.quota.notices
    entry.quota.limits

pub below_quota : (quota n : ℕ) → nat_le quota n ≡ false → n < quota
below_quota quota n h = grind (arith, nat_tests)

-- a line takes the place of one, or there is room
pub set_kept : (s : State) (line : Line) → SoundState s →
    (get s.lines line.pattern ≡ None → len s.lines < 5000) → SoundState (change (PutLine line) s)
set_kept s line h room = record {
  shaped = change_shaped s (PutLine line) h.shaped room;
  conserved = h.conserved;
  bounded = h.bounded;
}
