-- What holds of the tables, and of every customer's state, after any calls of a desk.
use Rattle.std.specs.Prelude.{◌≡◌, ℕ, suc, ◌+◌, ◌-◌, ◌*◌, ◌^◌, ◌<◌, ◌≤◌, nat_lt, List, [], ◌∷◌}
use Rattle.std.specs.Prelude.{length, map, Some, None}
use Rattle.std.specs.List.{sum_by, IsDistinct}
use Rattle.std.specs.Ordering.{nat_cmp}
use Rattle.std.specs.FinMap.{get, len, entries, values}
pub use Rattle.hq_values.specs.Addresses.{same_address}
use Rattle.hq_kept.specs.Tallies.{all_gone}
use Rattle.hq_kept.specs.Messages.{is_on_hold}
use Rattle.hq_kept.specs.declared.message.Message.{Message}
use Rattle.hq_kept.specs.declared.message.Pending.{Pending}
use Rattle.hq_tables.specs.Tables.{State, Tables, Noted, Past, text_cmp, own, account, pending_of}
use Rattle.hq_tables.specs.Readings.{kept_in}
use Rattle.hq_owned.specs.Owned.{part_of}
use Rattle.hq_kept.specs.Limits.{most_messages, most_lines, most_recipients}

-- no two recipients have the same address
abbrev pub AreApart : List Pending → Type 0
AreApart ps = IsDistinct same_address (map (λ (p : Pending). p.address) ps)

-- a message has a reason exactly where it is on hold
abbrev pub IsReasoned : Message → Type 0
IsReasoned m = nat_lt 0 (length m.reason) ≡ is_on_hold m.state

-- a message that may stand in the queue at a serial: it has recipients, pairwise apart, its serial
-- was given out, and its reason is by this rule
pub record IsQueuedBy (IsRight : Message → Type 0) (next serial : ℕ) (m : Message) : Type 0 where
  pub own_serial : m.serial ≡ serial
  pub positive : 0 < serial
  pub below : serial < next
  pub some_pending : 0 < length m.pending
  pub apart : AreApart m.pending
  pub right : IsRight m

abbrev pub IsQueued : ℕ → ℕ → Message → Type 0
IsQueued = IsQueuedBy IsReasoned

-- next numbers are 1 to 2^40, where 2^40 is spent
abbrev pub IsNext : ℕ → Type 0
IsNext n = (0 < n) × (n ≤ 2 ^ 40)

-- a customer's state has the shape that a desk gives it
pub record ShapedStateBy (IsRight : Message → Type 0) (s : State) : Type 0 where
  pub next_serial : IsNext s.head.next_serial
  pub next_notice : IsNext s.head.next_notice
  pub messages : (serial : ℕ) (m : Message) → get s.messages serial ≡ Some m →
      IsQueuedBy IsRight s.head.next_serial serial m
  -- a spool name stands once
  pub spools : (k l : ℕ) (m n : Message) → get s.messages k ≡ Some m → get s.messages l ≡ Some n →
      m.spool ≡ n.spool → k ≡ l
  pub few_messages : len s.messages ≤ most_messages
  pub few_lines : len s.lines ≤ most_lines
  -- numbers of notices were given out
  pub notices : (number : ℕ) (n : Noted) → get s.notices number ≡ Some n → (0 < number)
      × (number < s.head.next_notice)
  -- and so were those of ends: at least as many recipients left the queue
  pub ends : (number : ℕ) (p : Past) → get s.ends number ≡ Some p →
      number ≤ all_gone s.head.tally

abbrev pub ShapedState : State → Type 0
ShapedState = ShapedStateBy IsReasoned

-- recipients with the places from i on
abbrev pub numbered : ℕ → List Pending → List (ℕ × Pending)
numbered i [] = []
numbered i (p ∷ ps) = (i, p) ∷ numbered (suc i) ps

-- the recipients of each message stand at the places 1, 2, .., and each recipient has its message
pub record ShapedRecipients (t : Tables) : Type 0 where
  pub placed : (customer : List ℕ) (serial : ℕ) →
      entries (part_of nat_cmp serial (part_of text_cmp customer t.recipients)) ≡ numbered 1
      (pending_of customer serial t.recipients)
  pub no_orphans : (customer : List ℕ) (serial : ℕ) → get t.messages (customer, serial) ≡ None →
      pending_of customer serial t.recipients ≡ []

-- no reason is empty, and each has its message
pub record ShapedHolds (t : Tables) : Type 0 where
  pub some_reason : (customer : List ℕ) (serial : ℕ) (reason : List ℕ) →
      get t.holds (customer, serial) ≡ Some reason → 0 < length reason
  pub no_orphans : (customer : List ℕ) (serial : ℕ) → get t.messages (customer, serial) ≡ None →
      get t.holds (customer, serial) ≡ None

-- the counts in each customer's head row are those of its rows; all are 0 where it has no head row
abbrev pub AreCounted : Tables → Type 0
AreCounted t = (customer : List ℕ) → (account t.heads customer).counts ≡ kept_in customer t

-- shaped tables: keys are unique, as those of finite maps are, and each customer's state is shaped
pub record Shaped (t : Tables) : Type 0 where
  pub states : (customer : List ℕ) → ShapedState (own customer t)
  pub recipients : ShapedRecipients t
  pub holds : ShapedHolds t
  pub counts : AreCounted t

-- how many recipients are pending
abbrev pub pending_count : List Message → ℕ
pending_count ms = sum_by (λ (m : Message). length m.pending) ms

-- each accepted recipient is pending, or was delivered, failed, deleted or expired
abbrev pub IsConserved : State → Type 0
IsConserved s = let tally = s.head.tally in
    tally.accepted ≡ pending_count (values s.messages) + tally.delivered + tally.failed +
    tally.deleted + tally.expired

-- a serial was used for at most 100 accepted recipients
abbrev pub IsBounded : State → Type 0
IsBounded s = s.head.tally.accepted ≤ most_recipients * (s.head.next_serial - 1)

-- a sound state
pub record SoundStateBy (IsRight : Message → Type 0) (s : State) : Type 0 where
  pub shaped : ShapedStateBy IsRight s
  pub conserved : IsConserved s
  pub bounded : IsBounded s

abbrev pub SoundState : State → Type 0
SoundState = SoundStateBy IsReasoned

-- sound tables
pub record SoundBy (IsRight : Message → Type 0) (t : Tables) : Type 0 where
  pub states : (customer : List ℕ) → SoundStateBy IsRight (own customer t)
  pub recipients : ShapedRecipients t
  pub holds : ShapedHolds t
  pub counts : AreCounted t

abbrev pub Sound : Tables → Type 0
Sound = SoundBy IsReasoned
