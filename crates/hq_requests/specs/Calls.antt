-- From an exchange to a call: the refusals in the order of the steps here.
use Rattle.std.specs.Prelude.{ℕ, ⊤, ◌≡◌, nat_le, List, length}
use Rattle.std.specs.Prelude.{string_bytes, Option, None, Some, option_map, Result, Ok, Err}
use Rattle.std.specs.List.{find}
use Rattle.hq_values.specs.Limits.{most_bytes}
use Rattle.hq_values.specs.Readers.{◌>>=◌, guard, or_refuse, seen_by}
use Rattle.hq_values.specs.Serials.{serial_in}
use Rattle.hq_values.specs.declared.failure.Refusal.{Refusal}
use Rattle.hq_values.specs.declared.failure.Refusal.TheVariants.{BodyTooLong, NoRoute, WrongMethod}
use Rattle.hq_values.specs.declared.failure.Refusal.TheVariants.{BadField, NoCustomer}
use Rattle.hq_values.specs.declared.failure.Refusal.TheVariants.{WrongRole}
use Rattle.hq_rules.specs.Each.{each_call}
use Rattle.hq_rules.specs.declared.call.Call.{Call}
use Rattle.hq_rules.specs.declared.call.Call.TheVariants as call
use Rattle.hq_bodies.specs.Outcomes.{read_report}
use Rattle.hq_bodies.specs.Queries.{read_from, read_message_after, read_message_id}
use Rattle.hq_bodies.specs.Queries.{read_history_before, read_notice_after, read_notice_number}
use Rattle.hq_bodies.specs.Tables.{read_pattern, read_find, read_search, read_line, read_check}
use Rattle.hq_bodies.specs.Tables.{read_import}
use Rattle.hq_bodies.specs.Submissions.{read_envelope, read_submission}
use Rattle.hq_requests.specs.Routes.{methods_at, route_of, last_segment}
use Rattle.hq_requests.specs.declared.table.Role.{Role}
use Rattle.hq_requests.specs.declared.table.Role.TheVariants as role
use Rattle.hq_requests.specs.declared.table.Route.{Route}
use Rattle.hq_requests.specs.declared.table.Route.TheVariants as route
use Rattle.hq_requests.specs.Customers.{has_name}
use Rattle.hq_requests.specs.Directories.{entry_of, held_on, name_of, relay_alone, whose_seen}
use Rattle.hq_requests.specs.Rights.{allows}
use Rattle.hq_requests.specs.Named.{whose_exchange}
use Rattle.hq_requests.specs.Numbers.{notice_number}
use Rattle.hq_requests.specs.Spans.{Whom, Everyone, From, whom_seen}
use Rattle.hq_requests.specs.declared.directory.Directory.{Directory}
use Rattle.hq_requests.specs.declared.exchanges.Exchange.{Exchange}
use Rattle.hq_requests.specs.declared.request.Asking.{Asking}
use Rattle.hq_requests.specs.declared.request.Asking.TheVariants as asking

-- What an exchange asks: a call of one customer, or the same call of many.
pub data Asked : Type 0 where
  CallOf : List ℕ → Call → Asked
  CallOfAll : Whom → Call → Asked

-- the call that is asked, of one customer or of each
abbrev pub call_in : Asked → Call
call_in (CallOf name call) = call
call_in (CallOfAll whom call) = call

-- as the code has it
abbrev pub asked_seen : Asking → Asked
asked_seen (asking.CallOf caller call) = CallOf caller.entry.now.name call
asked_seen (asking.CallOfAll span each) = CallOfAll (whom_seen span) (each_call each)

-- whose call it is, the directory knows
abbrev pub IsKnown : Directory → Asking → Type 0
IsKnown d (asking.CallOf caller call) = caller.entry.now ≡ entry_of d caller.entry.now.name
IsKnown d (asking.CallOfAll span each) = ⊤

-- a call of a customer is of whom the exchange is of, and that of all is of none
abbrev pub IsAskedBy : Directory → Exchange → Asking → Type 0
IsAskedBy d x (asking.CallOf caller call) = whose_exchange d x ≡ Some (whose_seen caller)
IsAskedBy d x (asking.CallOfAll span each) = whose_exchange d x ≡ None

-- the serial of the message whose queue ID is the parameter
abbrev pub serial_of : List ℕ → Result ℕ Refusal
serial_of segment = or_refuse BadField (serial_in segment)

-- the number that is the parameter
abbrev pub number_of : List ℕ → Result ℕ Refusal
number_of segment = or_refuse BadField (notice_number segment)

-- what a route asks, of its parameter or its body
unfoldable pub asked_of : Route → List ℕ → List ℕ → Result Call Refusal
asked_of route.Messages segment body = Ok (call.List None None)
asked_of route.MessagesAfter segment body = do
  serial ← serial_of segment
  Ok (call.List (Some serial) None)
asked_of route.Show segment body = do
  serial ← serial_of segment
  Ok (call.Show serial)
asked_of route.Hold segment body = do
  serial ← serial_of segment
  Ok (call.Hold serial)
asked_of route.Release segment body = do
  serial ← serial_of segment
  Ok (call.Release serial)
asked_of route.Requeue segment body = do
  serial ← serial_of segment
  Ok (call.Requeue serial)
asked_of route.Delete segment body = do
  serial ← serial_of segment
  Ok (call.Delete serial)
asked_of route.HoldAll segment body = Ok (call.HoldAll None)
asked_of route.ReleaseAll segment body = Ok (call.ReleaseAll None)
asked_of route.DeleteAll segment body = Ok (call.DeleteAll None)
asked_of route.Find segment body = do
  asked ← read_find body
  Ok (call.List asked.0 (Some asked.1))
asked_of route.HoldMatching segment body = do
  pattern ← read_pattern body
  Ok (call.HoldAll (Some pattern))
asked_of route.ReleaseMatching segment body = do
  pattern ← read_pattern body
  Ok (call.ReleaseAll (Some pattern))
asked_of route.DeleteMatching segment body = do
  pattern ← read_pattern body
  Ok (call.DeleteAll (Some pattern))
asked_of route.Lines segment body = Ok (call.Lines None)
asked_of route.LinesAfter segment body = do
  pattern ← read_pattern body
  Ok (call.Lines (Some pattern))
asked_of route.PutLine segment body = do
  line ← read_line body
  Ok (call.PutLine line)
asked_of route.DropLine segment body = do
  pattern ← read_pattern body
  Ok (call.DropLine pattern)
asked_of route.Check segment body = do
  asked ← read_check body
  Ok (call.Check asked.0 asked.1)
asked_of route.Import segment body = do
  asked ← read_import body
  Ok (call.Import asked.0 asked.1)
asked_of route.Notices segment body = Ok (call.Notices None)
asked_of route.NoticesAfter segment body = do
  number ← number_of segment
  Ok (call.Notices (Some number))
asked_of route.Notice segment body = do
  number ← number_of segment
  Ok (call.Notice number)
asked_of route.History segment body = Ok (call.History None)
asked_of route.HistoryBefore segment body = do
  number ← number_of segment
  Ok (call.History (Some number))
asked_of route.FindHistory segment body = do
  asked ← read_search body
  Ok (call.FindHistory asked.0 asked.1)
asked_of route.Usage segment body = Ok call.Usage
asked_of route.Limits segment body = Ok call.Limits
asked_of route.Report segment body = Ok (call.Report None)
asked_of route.Submit segment body = do
  submission ← read_submission body
  Ok (call.Submit submission)
asked_of route.Admit segment body = do
  envelope ← read_envelope body
  Ok (call.Admit envelope)
asked_of route.Outcome segment body = do
  report ← read_report body
  Ok (call.Outcome report)
asked_of route.Due segment body = do
  after ← read_message_after body
  Ok (call.Due after)
asked_of route.Sweep segment body = Ok call.Sweep
asked_of route.MessagesByBody segment body = do
  after ← read_message_after body
  Ok (call.List after None)
asked_of route.ShowByBody segment body = do
  serial ← read_message_id body
  Ok (call.Show serial)
asked_of route.NoticesByBody segment body = do
  after ← read_notice_after body
  Ok (call.Notices after)
asked_of route.NoticeByBody segment body = do
  number ← read_notice_number body
  Ok (call.Notice number)
asked_of route.HistoryByBody segment body = do
  before ← read_history_before body
  Ok (call.History before)

-- the call of one customer: the key and whom it serves, its right, the parameter, the body
abbrev pub asked_of_one : Directory → Role → Route → Option (List ℕ) → (segment body : List ℕ) →
    Result Asked Refusal
asked_of_one d role route key segment body = do
  held ← held_on d role key segment
  right ← guard (allows held.right route) WrongRole
  call ← asked_of route segment body
  Ok (CallOf held.whose.customer call)

-- what a route for all asks of each customer: only these three are such routes
abbrev pub asked_of_each : Route → Result Call Refusal
asked_of_each route.Sweep = Ok call.Sweep
asked_of_each route.Usage = Ok call.Usage
asked_of_each route.Due = Ok (call.Due None)
asked_of_each _ = Err NoRoute

-- the name of a customer, or none for the first
abbrev pub start_in : Directory → Option (List ℕ) → Result (Option (List ℕ)) Refusal
start_in d None = Ok None
start_in d (Some name) = seen_by Some (or_refuse NoCustomer
    (option_map name_of (find (has_name name) d.customers)))

-- whom a route asks: a hundred, by the body; or every customer, whatever the body is
abbrev pub whom_in : Directory → Role → List ℕ → Result Whom Refusal
whom_in d role.RelayFrom body = do
  name ← read_from body
  start ← start_in d name
  Ok (From start)
whom_in d _ body = Ok Everyone

-- the call of all customers: the relay's key, a route for all, and whom it asks
abbrev pub asked_of_all : Directory → Role → Route → Option (List ℕ) → List ℕ → Result Asked Refusal
asked_of_all d role route key body = do
  relay ← relay_alone d key
  call ← asked_of_each route
  whom ← whom_in d role body
  Ok (CallOfAll whom call)

-- what a route of a role asks
abbrev pub asked_as : Directory → Role → Route → Option (List ℕ) → (segment body : List ℕ) →
    Result Asked Refusal
asked_as d role.RelayForAll route key segment body = asked_of_all d role.RelayForAll route key body
asked_as d role.RelayFrom route key segment body = asked_of_all d role.RelayFrom route key body
asked_as d role route key segment body = asked_of_one d role route key segment body

-- what is asked, or the refusal: the body's length, the path, the method, and then those of the
-- call
unfoldable pub call_from : Directory → (method path : List ℕ) → Option (List ℕ) → List ℕ →
    Result Asked Refusal
call_from d method path key body = do
  short ← guard (nat_le (length body) most_bytes) BodyTooLong
  methods ← or_refuse NoRoute (methods_at path)
  asked ← or_refuse WrongMethod (route_of methods method)
  asked_as d asked.0 asked.1 key (last_segment path) body

-- what an exchange asks
abbrev pub call_of : Directory → Exchange → Result Asked Refusal
call_of d x = call_from d (string_bytes x.method) (string_bytes x.path)
    (option_map string_bytes x.key) x.body.items
