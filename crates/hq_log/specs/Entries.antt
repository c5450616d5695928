-- What a log is told.
use Rattle.std.specs.Prelude.{◌≡◌, ℕ, List, Option, Some, None, option_map, string_bytes}
use Rattle.hq_requests.specs.declared.exchanges.Exchange.{Exchange}
use Rattle.hq_requests.specs.Bodies.{body_bytes}
use Rattle.hq_requests.specs.Named.{whose_told}
use Rattle.hq_requests.specs.declared.reply.Reply.{Reply}
use Rattle.hq_log.specs.Lines.{LogEntry}
use Rattle.hq_log.specs.declared.keeping.Answered.{Answered}

-- what is told of an exchange, or of what could not be read as one, and of its reply
abbrev pub exchange_entry : Option ℕ → Option Exchange → Reply → LogEntry
exchange_entry at asked reply = record {
  at = at;
  whose = whose_told reply;
  method = option_map (λ (x : Exchange). string_bytes x.method) asked;
  path = option_map (λ (x : Exchange). string_bytes x.path) asked;
  status = reply.status;
  body = body_bytes reply.body;
}

abbrev pub answered_entry : Answered → LogEntry
answered_entry answered = exchange_entry answered.at (option_map (λ x. x.now) answered.asked)
    answered.reply.now

-- from one state of a log to another it was told this, in this order, and nothing else
abbrev pub Telling : Type 0 → Type 1
Telling L = L → List LogEntry → L → Type 0

-- the same of a log that may be there: without one there is nothing to tell
abbrev pub tells_some : {L : Type 0} → Telling L → Telling (Option L)
tells_some tells None told new = new ≡ None
tells_some tells (Some old) told (Some new) = tells old told new
tells_some tells (Some old) told None = ⊥
