-- One connection: what it asks for is replied to once.
use Rattle.std.specs.Prelude.{◌≡◌, ◌⊎◌, ⊤, ℕ, List, [], ◌∷◌, Option, None, Some, option_to_list}
use Rattle.std.specs.Prelude.{Result, Ok, Err}
use Rattle.std.specs.Io.KnownBytes.{Appends, Keeps}
use Rattle.hq_values.specs.Refusals.{no_memory}
use Rattle.hq_rules.specs.Desks.{DeskSight}
use Rattle.hq_requests.specs.Calls.{call_from}
use Rattle.hq_wire.specs.Exchanges.{Ask}
use Rattle.hq_wire.specs.Replies.{SeenReply, reply_of_fault}
use Rattle.hq_wire.specs.Runs.{Served}
use Rattle.hq_requests.specs.declared.directory.Directory.{Directory}
use Rattle.hq_lines.specs.Lines.{Streams}
use Rattle.hq_lines.specs.Written.{AppendsPart}
use Rattle.hq_values.specs.declared.engine.EngineFault.{EngineFault}
use Rattle.hq_values.specs.declared.engine.EngineFault.TheVariants.{Read, Write, TooManyReads}
use Rattle.hq_values.specs.declared.engine.EngineFault.TheVariants.{WantOfMemory}
use Rattle.hq_http.specs.Requests.{Wanted, nothing, refused, request, Received, HasNoRoom}
use Rattle.hq_http.specs.Responses.{response_text}
use Rattle.hq_http.specs.Stages.{StaysOpen}

-- What the desk is asked at a moment: nothing, or one exchange. A refusal of the request is that of
-- its exchange.
abbrev pub asks : Directory → ℕ → Wanted → List Ask
asks d at nothing = []
asks d at (refused why) = record { at = at; called = Err why } ∷ []
asks d at (request q) = record { at = at; called = call_from d q.method q.path q.key q.body } ∷ []

-- a reply as a response
abbrev pub response_of : SeenReply → List ℕ
response_of r = response_text r.status r.body

-- the response is written, and where there is no reply nothing is
abbrev pub IsWritten : Option (List ℕ) → Option (List ℕ) → Option SeenReply → Type 0
IsWritten old new None = Keeps old new
IsWritten old new (Some r) = Appends old new (response_of r)

-- What was read asks for this, and was served as its exchange is, or as none; or there was no room
-- for it, so that it asks for nothing, which is told where want of memory may be, and nothing was
-- done.
abbrev pub AnsweredAs : {D : Type 0} → DeskSight D → Directory → ℕ → Option (List ℕ) →
    Option (List ℕ) → D → Wanted → Option SeenReply → D → Type 0
AnsweredAs sight d at read_old read_new old asked reply new =
    (Received read_old read_new asked
    × Served sight d old (asks d at asked) (option_to_list reply) new)
    ⊎ (HasNoRoom read_old read_new × sight.store.may_answer no_memory × (asked ≡ nothing)
    × (reply ≡ Some (reply_of_fault no_memory)) × (new ≡ old))

-- whatever it asks for
abbrev pub Answered : {D : Type 0} → DeskSight D → Directory → ℕ → Option (List ℕ) →
    Option (List ℕ) → D → Option SeenReply → D → Type 0
Answered sight d at read_old read_new old reply new =
    (asked : Wanted) × AnsweredAs sight d at read_old read_new old asked reply new

-- How the serving of a connection ends: what was read is answered, and the response is written; or
-- nothing was done, as more had to be read; or what was read is answered, and a beginning of the
-- response went out.
abbrev pub ConnectionEnds : {D : Type 0} → DeskSight D → Directory → ℕ → Streams → Streams →
    Type 0 → D → D → Result ⊤ EngineFault → Type 0
ConnectionEnds sight d at start end quiet old new (Ok _) = (reply : Option SeenReply)
    × Answered sight d at start.input end.input old reply new
    × IsWritten start.output end.output reply
ConnectionEnds sight d at start end quiet old new (Err Read) = StaysOpen start.input end.input
    × quiet
    × (new ≡ old)
ConnectionEnds sight d at start end quiet old new (Err TooManyReads) = StaysOpen start.input
    end.input × quiet
    × (new ≡ old)
ConnectionEnds sight d at start end quiet old new (Err Write) = (reply : SeenReply)
    × Answered sight d at start.input end.input old (Some reply) new
    × AppendsPart start.output end.output (response_of reply)
ConnectionEnds sight d at start end quiet old new (Err WantOfMemory) = ⊥
