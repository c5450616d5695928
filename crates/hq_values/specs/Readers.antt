-- What the readers of texts and bodies answer: the value, or the first refusal that applies.
use Rattle.std.specs.Prelude.{◌≡◌, ⊤, Bool, true, false, IsTrue, Option, Some, None, Result, Ok}
use Rattle.std.specs.Prelude.{Err, if◌then◌else◌}
use Rattle.hq_values.specs.declared.failure.Fail.{Fail}
use Rattle.hq_values.specs.declared.failure.Fail.TheVariants as fail
use Rattle.hq_values.specs.declared.failure.Refusal.{Refusal}
use Rattle.hq_values.specs.Refusals.{no_memory}

-- one reading after another: the first refusal ends it
infixl 10 ◌>>=◌
abbrev pub ◌>>=◌ : {A B E : Type 0} → Result A E → (A → Result B E) → Result B E
(Ok x) >>= f = f x
(Err e) >>= f = Err e

-- this value where its rule holds
abbrev pub checked : {A E : Type 0} → A → Bool → E → Result A E
checked value holds refusal = if holds then Ok value else Err refusal

-- the value that is there
abbrev pub or_refuse : {A E : Type 0} → E → Option A → Result A E
or_refuse refusal None = Err refusal
or_refuse refusal (Some x) = Ok x

-- nothing, where the test holds
abbrev pub guard : {E : Type 0} → Bool → E → Result ⊤ E
guard true refusal = Ok tt
guard false refusal = Err refusal

-- the proof that a test holds, where a value has to carry it
abbrev pub passes : {E : Type 0} (b : Bool) → E → Result (IsTrue b) E
passes true refusal = Ok (λ _. true)
passes false refusal = Err refusal

-- what was answered, with its value seen by view
abbrev pub seen_by : {X Y E : Type 0} → (X → Y) → Result X E → Result Y E
seen_by view (Ok x) = Ok (view x)
seen_by view (Err e) = Err e

-- a reader answered what reading gives; or want of memory, for this reason alone
abbrev pub ReadsIn : {A : Type 0} → Type 0 → Result A Fail → Result A Refusal → Type 0
ReadsIn refused (Ok value) reading = reading ≡ Ok value
ReadsIn refused (Err (fail.Refused refusal)) reading = reading ≡ Err refusal
ReadsIn refused (Err (fail.Fault fault)) reading = (fault ≡ no_memory) × refused

-- ---- of readers that say no reason

-- a failure is the refusal that reading gives, or want of memory
abbrev pub Fails : {A : Type 0} → Fail → Result A Refusal → Type 0
Fails (fail.Refused refusal) reading = reading ≡ Err refusal
Fails (fail.Fault fault) reading = fault ≡ no_memory

-- What a reader answered is what reading gives, unless memory ran out.
abbrev pub Reads : {A : Type 0} → Result A Fail → Result A Refusal → Type 0
Reads (Ok value) reading = reading ≡ Ok value
Reads (Err failure) reading = Fails failure reading
