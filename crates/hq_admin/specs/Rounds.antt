-- A round: one call of each customer of a directory, over a shelf.
use Rattle.std.specs.Prelude.{ℕ, ◌≡◌, List, [], ◌∷◌, ◌++◌, length, map, codes, Option, None, Some}
use Rattle.std.specs.Prelude.{Err, ⊤}
use Rattle.hq_values.specs.Refusals.{refusal_shown}
use Rattle.hq_values.specs.Turns.{InTurn}
use Rattle.hq_values.specs.declared.failure.Fault.{Fault}
use Rattle.hq_kept.specs.declared.account.Customer.{Customer}
use Rattle.hq_kept.specs.declared.account.Entry.{Entry}
use Rattle.hq_tables.specs.Shelves.{KeepsOnErr, OnSound, OnOpenSound, StopLeavesWhole}
use Rattle.hq_tables.specs.Tables.{Tables}
use Rattle.hq_rules.specs.Each.{each_call}
use Rattle.hq_rules.specs.Machine.{shared}
use Rattle.hq_rules.specs.declared.answer.Answer.{Answer}
use Rattle.hq_rules.specs.declared.answer.Answer.TheVariants.{Refused}
use Rattle.hq_rules.specs.declared.call.Call.{Call}
use Rattle.hq_rules.specs.declared.each.EachCall.{EachCall}
use Rattle.hq_rules.specs.Desks.{DeskSight, IsRendered, Stays, or_memory, stepped}
use Rattle.hq_rules.specs.declared.render.Rendered.{Rendered}
use Rattle.hq_admin.specs.Printed.{printed}
use Rattle.hq_admin.specs.declared.rounds.ToldAll.{ToldAll}

-- an answer as it is printed of one customer among others
abbrev pub printed_of : List ℕ → Answer → List ℕ
printed_of name (Refused refusal) = refusal_shown refusal ++ codes " customer " ++ name
printed_of name answer = name ++ codes ": " ++ printed answer

-- the call of one customer is done by the shared step, and its answer is printed
abbrev pub IsCalled : List ℕ → ℕ → Call → Tables → Entry → Rendered → Tables → Type 0
IsCalled host at asked t entry rendered t' =
    IsRendered (printed_of entry.name) (shared host entry t at asked).0 rendered
    × (t' ≡ (shared host entry t at asked).1)

abbrev pub customer_entry : Customer → Entry
customer_entry customer = customer.entry

-- The call of the next customer ended in a fault, and a stop there leaves it whole or not done.
pub record EndsInFault {D : Type 0} (sight : DeskSight D) (mid new : D) (at : ℕ)
    (asked : Call) (left : List Entry) (fault : Fault) : Type 0 where
  pub next : Entry
  pub more : List Entry
  pub is : left ≡ next ∷ more
  pub kept : KeepsOnErr {X = Rendered} (or_memory ⊤ sight.store) mid new (Err fault)
  pub host : sight.host new ≡ sight.host mid
  pub stops : OnSound sight.store mid new
      (StopLeavesWhole sight.store mid new (stepped sight mid next at asked).1)

-- the calls of all are done; or of the first of them, and that of the next one ended in this fault
abbrev pub StopsAt : {D : Type 0} → DeskSight D → D → D → ℕ → Call → List Entry →
    Option Fault → Type 0
StopsAt sight mid new at asked left None = (left ≡ []) × (new ≡ mid)
StopsAt sight mid new at asked left (Some fault) = EndsInFault sight mid new at asked left fault

-- A desk makes the calls of the customers in their order, until a fault, and each that is done is
-- told of, whatever becomes of the store. `mid` is the desk behind those that are done.
pub record CallsEach {D : Type 0} (sight : DeskSight D) (old new : D) (at : ℕ)
    (each_is : EachCall) (customers : List Customer) (done : ToldAll) : Type 0 where
  pub mid : D
  pub called : List Entry
  pub left : List Entry
  pub order : map customer_entry customers ≡ called ++ left
  pub counted : length done.told.items ≡ length called
  pub each : OnOpenSound sight.store old mid
      (InTurn (IsCalled (sight.host old) at (each_call each_is)) (sight.store.tables old) called
      done.told.items (sight.store.tables mid))
  pub stays : Stays sight old mid
  -- calls that are done close no store, and count no fault
  pub standing : sight.store.is_closed mid ≡ sight.store.is_closed old
  pub untold : sight.store.fault_count mid ≡ sight.store.fault_count old
  pub ends : StopsAt sight mid new at (each_call each_is) left done.stopped
