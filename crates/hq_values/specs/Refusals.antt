-- The numbers and names of refusals and faults: part of every reply, so they never change.
use Rattle.std.specs.Prelude.{ℕ, List, ◌++◌, codes, decimal, Option, Some, None}
use Rattle.hq_values.specs.declared.failure.Refusal.{Refusal}
use Rattle.hq_values.specs.declared.failure.Refusal.TheVariants.{BadRequest, NoKey, WrongRole}
use Rattle.hq_values.specs.declared.failure.Refusal.TheVariants.{NoRoute, WrongMethod, BodyTooLong}
use Rattle.hq_values.specs.declared.failure.Refusal.TheVariants.{BadJson, BadField, NoMessage}
use Rattle.hq_values.specs.declared.failure.Refusal.TheVariants.{NoLine}
use Rattle.hq_values.specs.declared.failure.Refusal.TheVariants.{NoNotice, NoCustomer, BadAddress}
use Rattle.hq_values.specs.declared.failure.Refusal.TheVariants.{BadSpool, BadPattern, BadAction}
use Rattle.hq_values.specs.declared.failure.Refusal.TheVariants.{BadStatus, BadLabel, BadText}
use Rattle.hq_values.specs.declared.failure.Refusal.TheVariants.{AttemptAhead, UnknownRecipient}
use Rattle.hq_values.specs.declared.failure.Refusal.TheVariants.{DoubledRecipient, NoOutcome}
use Rattle.hq_values.specs.declared.failure.Refusal.TheVariants.{QuotaMessages, QuotaBytes}
use Rattle.hq_values.specs.declared.failure.Refusal.TheVariants.{QuotaLines, SerialsSpent}
use Rattle.hq_values.specs.declared.failure.Refusal.TheVariants.{NoticesSpent, BadCsv}
use Rattle.hq_values.specs.declared.failure.Refusal.TheVariants.{DoubledPattern}
use Rattle.hq_values.specs.declared.failure.Refusal.TheVariants.{LabelUsed, BadDirectory}
use Rattle.hq_values.specs.declared.failure.Refusal.TheVariants.{DoubledName}
use Rattle.hq_values.specs.declared.failure.Refusal.TheVariants.{DoubledKey, BadHost, BadRelayKey}
use Rattle.hq_values.specs.declared.failure.Fault.{Fault}
use Rattle.hq_values.specs.declared.failure.Fault.TheVariants.{WantOfMemory, Disk, BadSchema}
use Rattle.hq_values.specs.declared.failure.Fault.TheVariants.{Closed}
use Rattle.hq_values.specs.declared.failure.Fail.{Fail}
use Rattle.hq_values.specs.declared.failure.Fail.TheVariants.{Refused, Fault as AsFault}

abbrev pub refusal_number : Refusal → ℕ
refusal_number BadRequest = 1
refusal_number NoKey = 2
refusal_number WrongRole = 3
refusal_number NoRoute = 4
refusal_number WrongMethod = 5
refusal_number BodyTooLong = 6
refusal_number BadJson = 7
refusal_number BadField = 8
refusal_number NoMessage = 10
refusal_number NoLine = 11
refusal_number NoNotice = 12
refusal_number NoCustomer = 13
refusal_number BadAddress = 20
refusal_number BadSpool = 23
refusal_number BadPattern = 24
refusal_number BadAction = 25
refusal_number BadStatus = 26
refusal_number BadLabel = 27
refusal_number BadText = 28
refusal_number (AttemptAhead attempts) = 30
refusal_number UnknownRecipient = 31
refusal_number DoubledRecipient = 32
refusal_number NoOutcome = 33
refusal_number QuotaMessages = 40
refusal_number QuotaBytes = 41
refusal_number QuotaLines = 42
refusal_number SerialsSpent = 43
refusal_number NoticesSpent = 44
refusal_number (BadCsv row) = 50
refusal_number (DoubledPattern row) = 51
refusal_number LabelUsed = 52
refusal_number (BadDirectory row) = 53
refusal_number (DoubledName row) = 54
refusal_number (DoubledKey row) = 55
refusal_number BadHost = 56
refusal_number BadRelayKey = 57

abbrev pub refusal_name : Refusal → List ℕ
refusal_name BadRequest = codes "BadRequest"
refusal_name NoKey = codes "NoKey"
refusal_name WrongRole = codes "WrongRole"
refusal_name NoRoute = codes "NoRoute"
refusal_name WrongMethod = codes "WrongMethod"
refusal_name BodyTooLong = codes "BodyTooLong"
refusal_name BadJson = codes "BadJson"
refusal_name BadField = codes "BadField"
refusal_name NoMessage = codes "NoMessage"
refusal_name NoLine = codes "NoLine"
refusal_name NoNotice = codes "NoNotice"
refusal_name NoCustomer = codes "NoCustomer"
refusal_name BadAddress = codes "BadAddress"
refusal_name BadSpool = codes "BadSpool"
refusal_name BadPattern = codes "BadPattern"
refusal_name BadAction = codes "BadAction"
refusal_name BadStatus = codes "BadStatus"
refusal_name BadLabel = codes "BadLabel"
refusal_name BadText = codes "BadText"
refusal_name (AttemptAhead attempts) = codes "AttemptAhead"
refusal_name UnknownRecipient = codes "UnknownRecipient"
refusal_name DoubledRecipient = codes "DoubledRecipient"
refusal_name NoOutcome = codes "NoOutcome"
refusal_name QuotaMessages = codes "QuotaMessages"
refusal_name QuotaBytes = codes "QuotaBytes"
refusal_name QuotaLines = codes "QuotaLines"
refusal_name SerialsSpent = codes "SerialsSpent"
refusal_name NoticesSpent = codes "NoticesSpent"
refusal_name (BadCsv row) = codes "BadCsv"
refusal_name (DoubledPattern row) = codes "DoubledPattern"
refusal_name LabelUsed = codes "LabelUsed"
refusal_name (BadDirectory row) = codes "BadDirectory"
refusal_name (DoubledName row) = codes "DoubledName"
refusal_name (DoubledKey row) = codes "DoubledKey"
refusal_name BadHost = codes "BadHost"
refusal_name BadRelayKey = codes "BadRelayKey"

abbrev pub fault_number : Fault → ℕ
fault_number WantOfMemory = 90
fault_number Disk = 91
fault_number BadSchema = 92
fault_number Closed = 93

abbrev pub fault_name : Fault → List ℕ
fault_name WantOfMemory = codes "WantOfMemory"
fault_name Disk = codes "Disk"
fault_name BadSchema = codes "BadSchema"
fault_name Closed = codes "Closed"

-- what a refusal carries beside its name: the word for it, and the number
abbrev pub refusal_detail : Refusal → Option (List ℕ × ℕ)
refusal_detail (AttemptAhead attempts) = Some (codes "attempts", attempts)
refusal_detail (BadCsv row) = Some (codes "row", row)
refusal_detail (DoubledPattern row) = Some (codes "row", row)
refusal_detail (BadDirectory row) = Some (codes "row", row)
refusal_detail (DoubledName row) = Some (codes "row", row)
refusal_detail (DoubledKey row) = Some (codes "row", row)
refusal_detail _ = None

abbrev pub number_and_name : ℕ → List ℕ → List ℕ
number_and_name number name = decimal number ++ codes " " ++ name

abbrev pub shown_with : ℕ → List ℕ → Option (List ℕ × ℕ) → List ℕ
shown_with number name None = number_and_name number name
shown_with number name (Some detail) = number_and_name number name ++ codes " " ++ detail.0
    ++ codes " "
    ++ decimal detail.1

-- as a person reads it: the number, the name, and the row or the attempts where it has them
abbrev pub refusal_shown : Refusal → List ℕ
refusal_shown refusal = shown_with (refusal_number refusal) (refusal_name refusal)
    (refusal_detail refusal)

abbrev pub fault_shown : Fault → List ℕ
fault_shown fault = number_and_name (fault_number fault) (fault_name fault)

abbrev pub fail_shown : Fail → List ℕ
fail_shown (Refused refusal) = refusal_shown refusal
fail_shown (AsFault fault) = fault_shown fault

-- the fault of a call that memory ran out for
abbrev pub no_memory : Fault
no_memory = WantOfMemory

abbrev pub refused : Refusal → Fail
refused refusal = Refused refusal

abbrev pub faulted : Fault → Fail
faulted fault = AsFault fault

-- the same fault, where a refusal may come too
abbrev pub no_memory_fail : Fail
no_memory_fail = AsFault WantOfMemory
