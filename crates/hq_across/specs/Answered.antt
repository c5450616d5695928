-- Replies where no fault may be answered.
use Rattle.std.specs.Prelude.{◌≡◌, ℕ, List, [], map, None, Result, Ok, Err}
use Rattle.hq_values.specs.declared.failure.Fault.{Fault}
use Rattle.hq_values.specs.declared.failure.Refusal.{Refusal}
use Rattle.hq_tables.specs.Shelves.{Sight}
use Rattle.hq_tables.specs.Tables.{Tables}
use Rattle.hq_rules.specs.Machine.{shared}
use Rattle.hq_rules.specs.declared.answer.Answer.TheVariants.{Refused}
use Rattle.hq_requests.specs.Calls.{Asked, CallOf, CallOfAll}
use Rattle.hq_requests.specs.Directories.{entry_of}
use Rattle.hq_requests.specs.Spans.{names_in}
use Rattle.hq_requests.specs.declared.directory.Directory.{Directory}
use Rattle.hq_wire.specs.Exchanges.{AllDone, Ask, Deed, Unheard, next_left, of_part, unheard_call}
use Rattle.hq_wire.specs.Replies.{Part, SeenReply, parted_reply, reply_of}

-- such a store answers none
abbrev pub NoFault : {S : Type 0} → Sight S → Type 0
NoFault store = (fault : Fault) → store.may_answer fault → ⊥

-- the calls that an exchange did, as they were asked for
abbrev pub as_asked : Deed → Unheard
as_asked deed = unheard_call deed.at deed.call deed.customer

-- A refusal is told, and changes nothing. A call is answered by the shared step, and leaves its
-- tables. A call of all is done of every customer that it asks, in the order of the directory.
abbrev pub IsAnsweredTo : List ℕ → Directory → Tables → ℕ → Result Asked Refusal → SeenReply →
    Tables → Type 0
IsAnsweredTo host d t at (Err refusal) r t' = (r ≡ reply_of (Refused refusal)) × (t' ≡ t)
IsAnsweredTo host d t at (Ok (CallOf name call)) r t' =
    let done = shared host (entry_of d name) t at call in
    (r ≡ reply_of done.0) × (t' ≡ done.1)
IsAnsweredTo host d t at (Ok (CallOfAll whom call)) r t' =
    (names_in d whom ≡ map (λ (part : Part). part.customer) r.parts)
    × AllDone host d t (map (of_part at call) r.parts) t'
    × (r ≡ parted_reply r.parts (next_left d whom []) None)

abbrev pub IsAnswered : List ℕ → Directory → Tables → Ask → SeenReply → Tables → Type 0
IsAnswered host d t a r t' = IsAnsweredTo host d t a.at a.called r t'
