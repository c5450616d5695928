-- When a customer's new message is admitted to the queue. The rule and its order are this product's
-- own.
use Rattle.std.specs.Prelude.{ℕ, ◌+◌, ◌^◌, ◌==◌, nat_le, nat_lt, if◌then◌else◌, Result, Ok, Err}
use Rattle.hq_values.specs.declared.failure.Refusal.{Refusal}
use Rattle.hq_values.specs.declared.failure.Refusal.TheVariants.{QuotaMessages, QuotaBytes}
use Rattle.hq_values.specs.declared.failure.Refusal.TheVariants.{SerialsSpent}
use Rattle.hq_kept.specs.declared.account.Counts.{Counts}
use Rattle.hq_kept.specs.declared.account.Head.{Head}
use Rattle.hq_kept.specs.declared.account.Quota.{Quota}

-- the next serial of a customer that has had them all
abbrev pub spent : ℕ
spent = 2 ^ 40

-- refused where the messages are at the quota, else where the bytes with the new ones are above it,
-- else where no serial is left; admitted under the next serial
abbrev pub admitted : Head → Quota → Counts → ℕ → Result ℕ Refusal
admitted head quota counts size =
    if nat_le quota.messages counts.messages then Err QuotaMessages else
    (if nat_lt quota.bytes (counts.bytes + size) then Err QuotaBytes else
    (if head.next_serial == spent then Err SerialsSpent else Ok head.next_serial))
