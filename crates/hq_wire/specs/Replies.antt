-- What is replied: a status and the bytes of a body.
use Rattle.std.specs.Prelude.{ℕ, ⊤, ◌≡◌, ◌==◌, ◌&&◌, ◌||◌, Bool, true, false, not, nat_le, List, []}
use Rattle.std.specs.Prelude.{◌∷◌, ◌++◌, Option, None, Some, bytes_eq, codes, count_by}
use Rattle.std.specs.Prelude.{if◌then◌else◌}
use Rattle.std.specs.List.{flat_map}
use Rattle.hq_values.specs.declared.failure.Fault.{Fault}
use Rattle.hq_values.specs.declared.failure.Fault.TheVariants.{WantOfMemory, Disk, BadSchema}
use Rattle.hq_values.specs.declared.failure.Fault.TheVariants.{Closed}
use Rattle.hq_rules.specs.Answers.{answer_number}
use Rattle.hq_rules.specs.declared.answer.Answer.{Answer}
use Rattle.hq_json.specs.Parts.{IsObject, for_customer}
use Rattle.hq_json.specs.Replies.{answer_text}
use Rattle.hq_requests.specs.Bodies.{body_bytes}
use Rattle.hq_requests.specs.declared.reply.Reply.{Reply}

-- what one customer is told in the reply to a call of all
pub record Part : Type 0 where
  pub customer : List ℕ
  pub text : List ℕ

-- the customer at whom a call of all stopped, and the fault
pub record Stop : Type 0 where
  pub customer : List ℕ
  pub fault : Fault

-- A reply as it is seen. A call of all is told in parts, and where it stopped.
pub record SeenReply : Type 0 where
  pub status : ℕ
  pub body : List ℕ
  pub parts : List Part
  pub stopped : Option Stop

-- a reply without parts
abbrev pub plain : ℕ → List ℕ → SeenReply
plain status body = record { status = status; body = body; parts = []; stopped = None }

abbrev pub seen : Reply → SeenReply
seen reply = plain reply.status (body_bytes reply.body)

-- byte for byte it is this reply
abbrev pub IsSent : Reply → SeenReply → Type 0
IsSent reply r = (r.status ≡ reply.status) × (r.body ≡ body_bytes reply.body)

-- nothing is there: no route, message, line, notice or customer
abbrev pub is_missing : ℕ → Bool
is_missing n = n == 4 || (nat_le 10 n && nat_le n 13)

-- it does not agree with what is kept: an attempt too far ahead, a quota, spent numbers, a used
-- label
abbrev pub is_conflict : ℕ → Bool
is_conflict n = n == 30 || (nat_le 40 n && nat_le n 44) || n == 52

-- the HTTP status of an answer, by its number (RFC 9110, 15)
unfoldable pub status_of : ℕ → ℕ
status_of n =
    if n == 0 then 200 else
    (if n == 2 then 401 else
    (if n == 3 then 403 else
    (if is_missing n then 404 else
    (if n == 5 then 405 else
    (if n == 6 then 413 else
    (if is_conflict n then 409 else 400))))))

-- the reply to an answer
abbrev pub reply_of : Answer → SeenReply
reply_of a = plain (status_of (answer_number a)) (answer_text a)

-- the fixed text of a fault
abbrev pub fault_text : Fault → List ℕ
fault_text WantOfMemory = codes "{\"error\":90,\"name\":\"WantOfMemory\"}"
fault_text Disk = codes "{\"error\":91,\"name\":\"Disk\"}"
fault_text BadSchema = codes "{\"error\":92,\"name\":\"BadSchema\"}"
fault_text Closed = codes "{\"error\":93,\"name\":\"Closed\"}"

-- the reply to a fault: 503
unfoldable pub reply_of_fault : Fault → SeenReply
reply_of_fault fault = plain 503 (fault_text fault)

-- ---- a call of all

-- a part behind others has a comma before it
abbrev pub separated : Bool → List ℕ → List ℕ
separated true part = part
separated false part = 44 ∷ part

-- the parts, with commas between them
abbrev pub comma_joined : List Part → List ℕ
comma_joined [] = []
comma_joined (p ∷ ps) = p.text ++ flat_map (λ (q : Part). 44 ∷ q.text) ps

abbrev pub stopped_text : Option Stop → List ℕ
stopped_text None = codes "null"
stopped_text (Some stop) = for_customer stop.customer (fault_text stop.fault)

-- up to the first part
abbrev pub parts_opening : List ℕ
parts_opening = codes "{\"done\":["

abbrev pub name_text : Option (List ℕ) → List ℕ
name_text None = codes "null"
name_text (Some name) = codes "\"" ++ name ++ codes "\""

-- the first customer that has no part, where that is told
abbrev pub next_text : Option (Option (List ℕ)) → List ℕ
next_text None = []
next_text (Some next) = codes ",\"next\":" ++ name_text next

-- behind the last part
abbrev pub closing : Option (Option (List ℕ)) → Option Stop → List ℕ
closing next stopped = codes "]" ++ next_text next ++ codes ",\"stopped\":" ++ stopped_text stopped
    ++ codes "}"

-- the reply to a call of all
abbrev pub parted_reply : List Part → Option (Option (List ℕ)) → Option Stop → SeenReply
parted_reply parts next stopped = record {
  status = 200;
  body = parts_opening ++ comma_joined parts
      ++ closing next stopped;
  parts = parts;
  stopped = stopped;
}

-- ---- what the bytes of such a reply tell

abbrev pub AreObjects : List Part → Type 0
AreObjects [] = ⊤
AreObjects (p ∷ ps) = IsObject p.text × AreObjects ps

-- ---- faults of the store

abbrev pub is_memory : Fault → Bool
is_memory WantOfMemory = true
is_memory _ = false

abbrev pub stops_by_store : Option Stop → Bool
stops_by_store None = false
stops_by_store (Some stop) = not (is_memory stop.fault)

-- the reply tells a fault that is not want of memory, whole or as what stopped a call of all: one
-- that the store counts
abbrev pub tells_store : SeenReply → Bool
tells_store r = (r.status == 503 && not (bytes_eq r.body (fault_text WantOfMemory)))
    || stops_by_store r.stopped

-- how many replies do
abbrev pub store_faults : List SeenReply → ℕ
store_faults rs = count_by tells_store rs
