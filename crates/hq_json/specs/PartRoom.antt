-- Room for the parts of the reply to a call of all, and the numbers that they tell.
-- Inner: it serves proofs alone, and no promise rests on it.
use Rattle.std.specs.Prelude.{ℕ, ◌+◌, ◌<◌, ◌≤◌, ◌^◌, ⊤, Bool, true, false, List, length}
use Rattle.hq_values.specs.declared.failure.Refusal.TheVariants.{NoticesSpent}
use Rattle.hq_rules.specs.declared.answer.Answer.{Answer}
use Rattle.hq_rules.specs.declared.answer.Answer.TheVariants.{Refused, Swept, Used}
use Rattle.hq_rules.specs.declared.each.EachCall.{EachCall}
use Rattle.hq_rules.specs.declared.each.EachCall.TheVariants.{Sweep, Usage, Due}

-- the answers that can be a part of such a call: of one that takes no room first, all can
abbrev pub is_for : EachCall → Answer → Bool
is_for Sweep (Swept counts) = true
is_for Sweep (Refused NoticesSpent) = true
is_for Usage (Used usage) = true
is_for Due answer = true
is_for _ _ = false

-- the room that is taken first for a part of such a call, and a comma: none where its parts have no
-- small bound
abbrev pub part_room : EachCall → ℕ
part_room Sweep = 140
part_room Usage = 326
part_room Due = 0

-- a part fits in the room that was taken for it first
abbrev pub HasRoom : EachCall → List ℕ → Type 0
HasRoom Due bytes = ⊤
HasRoom each bytes = 1 + length bytes ≤ part_room each

abbrev pub AreNumbers : ℕ → ℕ → ℕ → Type 0
AreNumbers one two three = (one < 2 ^ 64) × (two < 2 ^ 64) × (three < 2 ^ 64)

-- what such answers tell are numbers of 64 bits
abbrev pub TellsNumbers : Answer → Type 0
TellsNumbers (Swept counts) = AreNumbers counts.expired counts.notices counts.warned
TellsNumbers (Used usage) =
    AreNumbers usage.tally.accepted usage.tally.delivered usage.tally.failed
    × AreNumbers usage.tally.deleted usage.tally.expired usage.pending
    × AreNumbers usage.counts.messages usage.counts.bytes usage.counts.lines
TellsNumbers _ = ⊤
