-- How far a request has come.
use Rattle.std.specs.Prelude.{◌≡◌, ◌≢◌, ◌⊎◌, ◌≤◌, ◌<◌, ℕ, List, length, Option, option_map}
use Rattle.std.specs.Prelude.{string_bytes}
use Rattle.std.specs.Io.KnownBytes.{Consumes}
use Rattle.httparse.specs.Grammar.{RequestHead}
use Rattle.hq_values.specs.declared.engine.EngineFault.{EngineFault}
use Rattle.hq_values.specs.declared.engine.EngineFault.TheVariants as fault
use Rattle.hq_http.specs.Requests as requests
use Rattle.hq_http.specs.Requests.{IsOpen, ReadsHead, Determines, RequestOf, Received, HasNoRoom}
use Rattle.hq_http.specs.Requests.{nothing, refused, request, most_head_bytes}
use Rattle.hq_http.specs.declared.ends.HeadPlace.TheVariants.{Ended}
use Rattle.hq_http.specs.declared.head.WholeHead.{WholeHead}
use Rattle.hq_http.specs.declared.stages.Request.{Request}
use Rattle.hq_http.specs.declared.stages.Stage.{Stage}
use Rattle.hq_http.specs.declared.stages.Stage.TheVariants.{Head, Body}
use Rattle.hq_http.specs.declared.stages.Step.{Step}
use Rattle.hq_http.specs.declared.stages.Step.TheVariants as step
use Rattle.hq_http.specs.declared.reading.Input.{Input}
use Rattle.hq_http.specs.declared.reading.Input.TheVariants as input
use Rattle.hq_http.specs.declared.reading.Turn.{Turn}
use Rattle.hq_http.specs.declared.reading.Turn.TheVariants.{Again, Done}
use Rattle.hq_values.specs.Limits.{most_bytes}

-- a request as the code holds it
abbrev pub request_seen : Request → requests.Request
request_seen m = record {
  method = string_bytes m.method;
  path = string_bytes m.path;
  key = option_map string_bytes m.key;
  body = m.body.items;
}

-- a request has the texts of a head, and these bytes as its body
pub record IsOf (m : Request) (w : WholeHead) (rest : List ℕ) : Type 0 where
  pub method : string_bytes m.method ≡ w.method.now
  pub path : string_bytes m.path ≡ w.path.now
  pub key : option_map string_bytes m.key ≡ option_map (λ k. k.now) w.key
  pub body : m.body.items ≡ rest

-- the bytes are a head with a body of this length, and the request has what the head says, and the
-- bytes behind it
pub record BodyBegun (bytes : List ℕ) (m : Request) (length : ℕ) : Type 0 where
  pub head : RequestHead
  pub reads : ReadsHead bytes head (record { length = length; key = option_map string_bytes m.key })
      m.body.items
  pub limit : length ≤ most_bytes
  pub method : string_bytes m.method ≡ head.method
  pub path : string_bytes m.path ≡ head.target

-- bytes lead to this stage: a head that has not ended, or a body that is not whole
abbrev pub StageIs : List ℕ → Stage → Type 0
StageIs bytes (Head begun) = (begun.bytes.items ≡ bytes) × (begun.place ≢ Ended)
    × (length bytes < most_head_bytes)
StageIs bytes (Body m n) = BodyBegun bytes m n × (length m.body.items < n)

-- bytes make this of a request: it is open, or settled however they go on
abbrev pub StepIs : List ℕ → Step → Type 0
StepIs bytes (step.Open stage) = StageIs bytes stage
StepIs bytes (step.Refused refusal) = Determines bytes (refused refusal)
StepIs bytes (step.Whole m) = Determines bytes (request (request_seen m))

-- some bytes were read, and so far the request is
abbrev pub IsAtStage : Option (List ℕ) → Option (List ℕ) → Stage → Type 0
IsAtStage read_old read_new stage = (bytes : List ℕ) × Consumes read_old read_new bytes
    × StageIs bytes stage

-- what was read; or that there was no room for it, since memory refused some
abbrev pub InputIs : Type 0 → Option (List ℕ) → Option (List ℕ) → Input → Type 0
InputIs no_memory read_old read_new input.Nothing = Received read_old read_new nothing
InputIs no_memory read_old read_new (input.Refused why) = Received read_old read_new (refused why)
InputIs no_memory read_old read_new (input.Request m) = Received read_old read_new
    (request (request_seen m))
InputIs no_memory read_old read_new input.NoRoom = HasNoRoom read_old read_new × no_memory

-- Bytes were read, and more had to be: no head has ended in them, or the body of one is not whole.
abbrev pub StaysOpen : Option (List ℕ) → Option (List ℕ) → Type 0
StaysOpen read_old read_new = (bytes : List ℕ) × Consumes read_old read_new bytes × IsOpen bytes

-- a fault of reading: a read failed, or there were too many; it leaves an open request
abbrev pub LeavesOpen : Option (List ℕ) → Option (List ℕ) → EngineFault → Type 0
LeavesOpen read_old read_new why = ((why ≡ fault.Read) ⊎ (why ≡ fault.TooManyReads))
    × StaysOpen read_old read_new

-- a read, and what it makes of the request
abbrev pub TurnIs : Type 0 → Option (List ℕ) → Option (List ℕ) → Turn → Type 0
TurnIs no_memory read_old read_new (Again stage) = IsAtStage read_old read_new stage
TurnIs no_memory read_old read_new (Done told) = InputIs no_memory read_old read_new told

-- what bytes that do not go on ask for
abbrev pub EndIs : List ℕ → Input → Type 0
EndIs bytes input.Nothing = RequestOf bytes nothing
EndIs bytes (input.Refused refusal) = RequestOf bytes (refused refusal)
EndIs bytes (input.Request m) = ⊥
EndIs bytes input.NoRoom = ⊥
