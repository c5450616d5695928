-- Whole runs: the desk's, and that of one customer's machine on that customer's share of the calls.
use Rattle.std.specs.Prelude.{◌≡◌, ℕ, ◌+◌, ◌-◌, ◌^◌, ◌<◌, Bool, List, [], ◌∷◌, ◌++◌, map}
use Rattle.std.specs.Prelude.{filter}
use Rattle.std.specs.List.{AllZip}
use Rattle.std.specs.Ordering.{eq_by_cmp}
use Rattle.hq_values.specs.Turns.{InTurn}
use Rattle.hq_values.specs.declared.failure.Fault.{Fault}
use Rattle.hq_tables.specs.Shelves.{OnOpenSound}
use Rattle.hq_tables.specs.Sound.{Sound}
use Rattle.hq_tables.specs.Tables.{Tables, text_cmp, own}
use Rattle.hq_rules.specs.Desks.{DeskSight, Stays}
use Rattle.hq_rules.specs.Machine.{answers, state_after}
use Rattle.hq_rules.specs.declared.answer.Answer.{Answer}
use Rattle.hq_rules.specs.declared.call.Call.{Call}
use Rattle.hq_requests.specs.Directories.{entry_of}
use Rattle.hq_wire.specs.Exchanges.{Ask, Deed, Told, deeds_of, told_as, MayReply, Exchanged}
use Rattle.hq_wire.specs.Replies.{SeenReply, IsSent, store_faults}
use Rattle.hq_requests.specs.declared.reply.Reply.{Reply}
use Rattle.hq_requests.specs.declared.directory.Directory.{Directory}

-- what was asked, the replies to it in order, and the tables before and after
abbrev pub AllReplied : (Fault → Type 0) → List ℕ → Directory → Tables → List Ask → List SeenReply →
    Tables → Type 0
AllReplied may host d t asks rs t' = InTurn (MayReply may host d) t asks rs t'

-- ---- one customer's share

-- what was done, in order
abbrev pub deeds : List Ask → List SeenReply → List Deed
deeds (a ∷ asks) (r ∷ rs) = deeds_of a.at a.called r ++ deeds asks rs
deeds _ _ = []

-- of one customer
abbrev pub deeds_for : List ℕ → List Deed → List Deed
deeds_for c done = filter (λ (deed : Deed). eq_by_cmp text_cmp c deed.customer) done

-- A call of a customer's share. A call that was made for all is marked.
pub record Shared : Type 0 where
  pub at : ℕ
  pub call : Call
  pub in_part : Bool

abbrev pub told_of : Deed → Told
told_of deed = deed.told

-- a call as it stands in a share
abbrev pub in_share : Deed → Shared
in_share deed = record { at = deed.at; call = deed.call; in_part = deed.in_part }

-- the customer's share: its calls with their moments, in order
abbrev pub share : List ℕ → List Ask → List SeenReply → List Shared
share c asks rs = map in_share (deeds_for c (deeds asks rs))

-- what the customer was told of them
abbrev pub heard : List ℕ → List Ask → List SeenReply → List Told
heard c asks rs = map told_of (deeds_for c (deeds asks rs))

-- the machine is given a share without its marks
abbrev pub calls_in : List Shared → List (ℕ × Call)
calls_in calls = map (λ (s : Shared). (s.at, s.call)) calls

-- what it answers, as the customer is told it
abbrev pub told_in : List ℕ → List Shared → List Answer → List Told
told_in c (s ∷ calls) (answer ∷ answers) = told_as s.in_part c answer ∷ told_in c calls answers
told_in c _ _ = []

-- ---- the headline

-- For every customer there is its machine, started from its own state and given its share of the
-- calls alone: the customer hears what that machine answers, and what is kept of it is the state
-- that the machine is left in.
pub record Alone (host : List ℕ) (d : Directory) (asks : List Ask) (rs : List SeenReply)
    (t t' : Tables) : Type 0 where
  pub replies : (c : List ℕ) → heard c asks rs ≡ told_in c (share c asks rs)
      (answers host (entry_of d c) (own c t) (calls_in (share c asks rs)))
  pub state : (c : List ℕ) → own c t' ≡ state_after host (entry_of d c) (own c t)
      (calls_in (share c asks rs))

-- What many exchanges do to a desk, by what is seen of its shelf.
pub record Served {D : Type 0} (sight : DeskSight D) (d : Directory) (old : D) (asks : List Ask)
    (rs : List SeenReply) (new : D) : Type 0 where
  -- one after the other, each as one exchange does
  pub each : InTurn (Exchanged sight d) old asks rs new
  -- the headline
  pub alone : OnOpenSound sight.store old new
      (Alone (sight.host old) d asks rs (sight.store.tables old) (sight.store.tables new))
  pub sound : OnOpenSound sight.store old new (Sound (sight.store.tables new))
  pub stays : Stays sight old new
  -- 91 and 93 are told as often as the shelf counted a fault, as long as its count does not stand
  -- still
  pub counted : sight.store.fault_count new < 2 ^ 64 - 1 →
      store_faults rs + sight.store.fault_count old ≡ sight.store.fault_count new

-- What one exchange does to a desk, with the reply as it is sent; and the headline, of one
-- exchange.
pub record RepliesSo {D : Type 0} (sight : DeskSight D) (d : Directory) (old : D) (a : Ask)
    (reply : Reply) (new : D) : Type 0 where
  pub told : SeenReply
  pub sent : IsSent reply told
  pub done : Exchanged sight d old a told new
  pub alone : OnOpenSound sight.store old new (Alone (sight.host old) d (a ∷ []) (told ∷ [])
      (sight.store.tables old) (sight.store.tables new))

-- the same of many, one after the other
pub record RunsSo {D : Type 0} (sight : DeskSight D) (d : Directory) (old : D) (asks : List Ask)
    (replies : List Reply) (new : D) : Type 0 where
  pub told : List SeenReply
  pub sent : AllZip IsSent replies told
  pub served : Served sight d old asks told new
