-- One exchange: what may be replied, and what is left.
use Rattle.std.specs.Prelude.{◌≡◌, ◌⊎◌, ℕ, ◌+◌, ◌-◌, ◌^◌, ◌<◌, ◌==◌, Bool, true, false, List}
use Rattle.std.specs.Prelude.{[], ◌∷◌, ◌++◌, map, length, take, drop, Option, None, Some, Result}
use Rattle.std.specs.Prelude.{Ok, Err}
use Rattle.std.specs.Prelude.{if◌then◌else◌}
use Rattle.hq_values.specs.Refusals.{no_memory}
use Rattle.hq_values.specs.declared.failure.Fault.{Fault}
use Rattle.hq_values.specs.declared.failure.Fault.TheVariants.{Closed}
use Rattle.hq_values.specs.declared.failure.Refusal.{Refusal}
use Rattle.hq_tables.specs.Shelves.{Sight, OnSound, OnOpenSound, StopLeaves, StopLeavesTables}
use Rattle.hq_tables.specs.Sound.{Sound}
use Rattle.hq_tables.specs.Tables.{Tables}
use Rattle.hq_rules.specs.Desks.{DeskSight, Stays, or_memory}
use Rattle.hq_rules.specs.Machine.{shared}
use Rattle.hq_rules.specs.declared.answer.Answer.{Answer}
use Rattle.hq_rules.specs.declared.answer.Answer.TheVariants.{Refused}
use Rattle.hq_rules.specs.declared.call.Call.{Call}
use Rattle.hq_requests.specs.Calls.{Asked, CallOf, CallOfAll, call_of}
use Rattle.hq_requests.specs.Directories.{entry_of, name_of}
use Rattle.hq_requests.specs.Spans.{Whom, Everyone, From, names_in, unasked_in}
use Rattle.hq_json.specs.Parts.{part_text}
use Rattle.hq_wire.specs.Replies.{SeenReply, Part, Stop, AreObjects, reply_of}
use Rattle.hq_wire.specs.Replies.{reply_of_fault, parted_reply, tells_store}
use Rattle.hq_requests.specs.declared.directory.Directory.{Directory}
use Rattle.hq_requests.specs.declared.exchanges.Exchange.{Exchange}

-- What was asked: when, and what, or the refusal that no call was made for.
pub record Ask : Type 0 where
  pub at : ℕ
  pub called : Result Asked Refusal

abbrev pub ask_of : Directory → Exchange → Ask
ask_of d x = record { at = x.at; called = call_of d x }

-- what is seen of a desk by exchanges that ask a memory for room, which may refuse
abbrev pub with_refusals : {D : Type 0} → Type 0 → DeskSight D → DeskSight D
with_refusals refused sight = record sight { store = or_memory refused sight.store }

-- want of memory is replied, where it may be answered
abbrev pub IsWant : (Fault → Type 0) → SeenReply → Type 0
IsWant may r = may no_memory × (r ≡ reply_of_fault no_memory)

-- the reply to a refusal, or want of memory in its place
abbrev pub IsRefused : (Fault → Type 0) → Refusal → SeenReply → Type 0
IsRefused may refusal r = (r ≡ reply_of (Refused refusal)) ⊎ IsWant may r

-- the reply tells this fault, and the tables are as before
abbrev pub IsStruck : Fault → Tables → SeenReply → Tables → Type 0
IsStruck fault t r t' = (r ≡ reply_of_fault fault) × (t' ≡ t)

-- ---- the calls of customers that were done

-- what a customer is told: a whole reply, or a part of the reply to a call of all
pub data Told : Type 0 where
  Whole : SeenReply → Told
  InPart : List ℕ → Told

-- an answer as it is told
abbrev pub told_as : Bool → List ℕ → Answer → Told
told_as false name answer = Whole (reply_of answer)
told_as true name answer = InPart (part_text name answer)

-- A call of a customer that was done, and what the customer was told.
pub record Deed : Type 0 where
  pub customer : List ℕ
  pub at : ℕ
  pub call : Call
  -- whether it was done in a call of all
  pub in_part : Bool
  pub told : Told

abbrev pub of_part : ℕ → Call → Part → Deed
of_part at call part = record {
  customer = part.customer;
  at = at;
  call = call;
  in_part = true;
  told = InPart part.text;
}

-- What one exchange did. A call that was answered 503, the status of faults alone, was not done; of
-- a call of all those were done that have their parts.
abbrev pub deeds_of : ℕ → Result Asked Refusal → SeenReply → List Deed
deeds_of at (Err refusal) r = []
deeds_of at (Ok (CallOf name call)) r = if r.status == 503 then [] else
    record { customer = name; at = at; call = call; in_part = false; told = Whole r } ∷ []
deeds_of at (Ok (CallOfAll whom call)) r = map (of_part at call) r.parts

-- Each by the shared step, from the tables that the one before it left.
abbrev pub AllDone : List ℕ → Directory → Tables → List Deed → Tables → Type 0
AllDone host d t [] t' = t' ≡ t
AllDone host d t (deed ∷ deeds) t' =
    let done = shared host (entry_of d deed.customer) t deed.at deed.call in
    (deed.told ≡ told_as deed.in_part deed.customer done.0) × AllDone host d done.1 deeds t'

-- ---- what a stop leaves, of the process or of its machine

-- a call of a customer whose answer may have reached nobody
pub record Unheard : Type 0 where
  pub customer : List ℕ
  pub at : ℕ
  pub call : Call

abbrev pub unheard_call : ℕ → Call → List ℕ → Unheard
unheard_call at call name = record { customer = name; at = at; call = call }

-- the calls that an exchange asks for, in the order in which they are done
abbrev pub calls_asked : Directory → ℕ → Result Asked Refusal → List Unheard
calls_asked d at (Err refusal) = []
calls_asked d at (Ok (CallOf name call)) = unheard_call at call name ∷ []
calls_asked d at (Ok (CallOfAll whom call)) = map (unheard_call at call) (names_in d whom)

-- of those that the reply does not tell of, the first
abbrev pub next_call : Directory → ℕ → Result Asked Refusal → SeenReply → List Unheard
next_call d at called r = take 1 (drop (length (deeds_of at called r)) (calls_asked d at called))

-- the tables that calls leave
abbrev pub after_calls : List ℕ → Directory → Tables → List Unheard → Tables
after_calls host d t [] = t
after_calls host d t (u ∷ us) =
    after_calls host d (shared host (entry_of d u.customer) t u.at u.call).1 us

-- From the tables t, a stop in an exchange that gets the reply r may leave the tables t': what the
-- reply tells of is done, and the call behind it is done or not.
abbrev pub StopMayLeave : List ℕ → Directory → Tables → ℕ → Result Asked Refusal → SeenReply →
    Tables → Type 0
StopMayLeave host d t at called r t' = (told : Tables)
    × AllDone host d t (deeds_of at called r) told
    × ((t' ≡ told) ⊎ (t' ≡ after_calls host d told (next_call d at called r)))

-- ---- what may be replied

abbrev pub first_named : List (List ℕ) → Option (List ℕ)
first_named [] = None
first_named (name ∷ names) = Some name

-- the first customer that has no part, as it is told: where not everyone was asked
abbrev pub next_shown : Whom → Option (List ℕ) → Option (Option (List ℕ))
next_shown Everyone next = None
next_shown (From start) next = Some next

abbrev pub next_left : Directory → Whom → List (List ℕ) → Option (Option (List ℕ))
next_left d whom left = next_shown whom (first_named (left ++ map name_of (unasked_in d whom)))

-- A call of all ends with the last customer that is asked; or at the first of those that are left,
-- by a fault.
abbrev pub EndsAt : (Fault → Type 0) → List (List ℕ) → Option Stop → Type 0
EndsAt may left None = left ≡ []
EndsAt may left (Some stop) = may stop.fault
    × ((more : List (List ℕ)) × (left ≡ stop.customer ∷ more))

-- A call of all: of the first of the customers that are asked it is done, of each in its turn, and
-- nothing else is.
pub record CallsAll (may : Fault → Type 0) (host : List ℕ) (d : Directory) (t : Tables) (at : ℕ)
    (whom : Whom) (call : Call) (r : SeenReply) (t' : Tables) : Type 0 where
  pub left : List (List ℕ)
  pub order : names_in d whom ≡ map (λ (part : Part). part.customer) r.parts ++ left
  pub done : AllDone host d t (map (of_part at call) r.parts) t'
  pub ends : EndsAt may left r.stopped
  -- so that the parts are told by the bytes
  pub objects : AreObjects r.parts
  pub reply : r ≡ parted_reply r.parts (next_left d whom left) r.stopped

-- From the tables t, what was asked may get the reply r and leave the tables t': a refusal, which
-- changes nothing; or the shared step's answer and its tables; or, in place of either, a fault that
-- changes nothing. So of a call of all, in whose place want of memory may be told.
abbrev pub MayReplyTo : (Fault → Type 0) → List ℕ → Directory → Tables → ℕ → Result Asked Refusal →
    SeenReply → Tables → Type 0
MayReplyTo may host d t at (Err refusal) r t' = IsRefused may refusal r × (t' ≡ t)
MayReplyTo may host d t at (Ok (CallOf name call)) r t' =
    let done = shared host (entry_of d name) t at call in
    ((r ≡ reply_of done.0) × (t' ≡ done.1)) ⊎ ((fault : Fault) × may fault
    × IsStruck fault t r t')
MayReplyTo may host d t at (Ok (CallOfAll whom call)) r t' = CallsAll may host d t at whom call r t'
    ⊎ (IsWant may r × (t' ≡ t))

abbrev pub MayReply : (Fault → Type 0) → List ℕ → Directory → Tables → Ask → SeenReply → Tables →
    Type 0
MayReply may host d t a r t' = MayReplyTo may host d t a.at a.called r t'

-- The reply to a call of all has the parts of the first of the customers that are asked, and then
-- ends, or names the next one and the fault that stopped it there.
pub record ArePartsOf (may : Fault → Type 0) (d : Directory) (whom : Whom) (r : SeenReply) : Type 0
  where
    pub left : List (List ℕ)
    pub order : names_in d whom ≡ map (λ (part : Part). part.customer) r.parts ++ left
    pub ends : EndsAt may left r.stopped
    pub objects : AreObjects r.parts
    pub reply : r ≡ parted_reply r.parts (next_left d whom left) r.stopped

-- What a reply tells, whatever the store is: of what was refused, the refusal; of a call of a
-- customer, an answer or a fault; of a call of all, parts and what stopped it. Want of memory may
-- stand in place of any.
abbrev pub TellsOf : (Fault → Type 0) → Directory → Result Asked Refusal → SeenReply → Type 0
TellsOf may d (Err refusal) r = IsRefused may refusal r
TellsOf may d (Ok (CallOf name call)) r = ((answer : Answer) × (r ≡ reply_of answer))
    ⊎ ((fault : Fault) × may fault × (r ≡ reply_of_fault fault))
TellsOf may d (Ok (CallOfAll whom call)) r = ArePartsOf may d whom r ⊎ IsWant may r

abbrev pub Tells : (Fault → Type 0) → Directory → Ask → SeenReply → Type 0
Tells may d a r = TellsOf may d a.called r

-- a call of all was stopped by 93
abbrev pub StopsClosed : Option Stop → Type 0
StopsClosed stopped = (customer : List ℕ) × (stopped ≡ Some
    (record { customer = customer; fault = Closed }))

-- the reply tells 93, whole or as what stopped a call of all
abbrev pub TellsClosed : SeenReply → Type 0
TellsClosed r = (r ≡ reply_of_fault Closed) ⊎ StopsClosed r.stopped

-- Whatever the store is: a refusal is told, and the desk stays as it is; and where the store is
-- closed after a call, the reply tells this, or want of memory before anything was done; and so of
-- a call of all, unless no customer was asked.
abbrev pub RepliesAnyway : {D : Type 0} → Sight D → Directory → D → Result Asked Refusal
    → SeenReply → D → Type 0
RepliesAnyway sight d old (Err refusal) r new = IsRefused sight.may_answer refusal r × (new ≡ old)
RepliesAnyway sight d old (Ok (CallOf name call)) r new = sight.is_closed new ≡ true →
    (r ≡ reply_of_fault Closed) ⊎ (IsWant sight.may_answer r × (new ≡ old))
RepliesAnyway sight d old (Ok (CallOfAll whom call)) r new = sight.is_closed new ≡ true →
    StopsClosed r.stopped
    ⊎ ((IsWant sight.may_answer r ⊎ (names_in d whom ≡ [])) × (new ≡ old))

-- What one exchange does to a desk, by what is seen of its shelf.
pub record Exchanged {D : Type 0} (sight : DeskSight D) (d : Directory) (old : D) (a : Ask)
    (r : SeenReply) (new : D) : Type 0 where
  pub replied : OnOpenSound sight.store old new
      (MayReply sight.store.may_answer (sight.host old) d (sight.store.tables old) a r
      (sight.store.tables new))
  pub tells : Tells sight.store.may_answer d a r
  pub anyway : RepliesAnyway sight.store d old a.called r new
  -- 93 is told only where the store is closed then
  pub closed : TellsClosed r → sight.store.is_closed new ≡ true
  pub sound : OnOpenSound sight.store old new (Sound (sight.store.tables new))
  pub stays : Stays sight old new
  -- wherever in it a stop comes
  pub stops : OnSound sight.store old new (StopLeavesTables sight.store old →
      StopLeaves sight.store new
      (StopMayLeave (sight.host old) d (sight.store.tables old) a.at a.called r))
  -- a desk that was closed does nothing
  pub shut : sight.store.is_closed old ≡ true → deeds_of a.at a.called r ≡ []
  -- 91 and 93 are told exactly where the shelf counted a fault, as long as its count does not stand
  -- still
  pub counted : sight.store.fault_count new < 2 ^ 64 - 1 →
      (if tells_store r then 1 else 0) + sight.store.fault_count old ≡ sight.store.fault_count new
