-- A store that stops, what an opening of it may find, and sessions over it. `before` and `after`
-- tell which trees an opening may find where the store stops then.
use Rattle.std.specs.Prelude.{◌≡◌, ◌⊎◌, ⊤, ℕ, List, [], ◌∷◌, map}
use Rattle.std.specs.List.{AllZip}
use Rattle.sqlite.specs.Effect.{Database, IsDatabase}
use Rattle.sqlite.specs.State.{State, Opens, IsLive}
use Rattle.sqlite.specs.Tree.{Trees}
use Rattle.hq_tables.specs.Sound.{Sound}
use Rattle.hq_sql_open.specs.Lifted.{lift, FirstSound}
use Rattle.hq_tables.specs.Tables.{Tables, no_tables, own}
use Rattle.hq_requests.specs.declared.directory.Directory.{Directory}
use Rattle.hq_requests.specs.declared.exchanges.Exchange.{Exchange}
use Rattle.hq_wire.specs.Exchanges.{Tells, ask_of}
use Rattle.hq_wire.specs.Replies.{IsSent, SeenReply}
use Rattle.hq_requests.specs.declared.reply.Reply.{Reply}
use Rattle.hq_across.specs.Histories.{Session, Passed, InSessions, AloneAcross}
use Rattle.hq_across.specs.Sessions.{StoppedAt}
use Rattle.hq_sql_open.specs.Found.{tables_with}
use Rattle.hq_sql_open.specs.Opening.{IsUnmade}
use Rattle.hq_sql_open.specs.Stores.{first_tables_in, second_tables_in}
use Rattle.hq_sql_shelf.specs.Shelf.{IsWholeDesk}

-- nothing was made yet in a store with these trees
pub record AreBlank (trees : Trees) : Type 0 where
  pub found : Database
  pub same : found.trees ≡ trees
  pub sound : IsDatabase found
  pub unmade : IsUnmade found

-- the trees are those of a desk with these tables; before they were made they are empty
abbrev pub KeepTables : Trees → Tables → Type 0
KeepTables trees t = (IsWholeDesk trees × (tables_with trees ≡ t))
    ⊎ (AreBlank trees × (t ≡ no_tables))

-- whatever an opening may find is a desk's, whose tables are sound, or nothing was made in it yet
abbrev pub KeepsDesk : (Trees → Type 0) → Type 0
KeepsDesk may = (trees : Trees) → may trees →
    (IsWholeDesk trees × Sound (tables_with trees)) ⊎ AreBlank trees

-- an opening may find these tables
abbrev pub MayKeep : (Trees → Type 0) → Tables → Type 0
MayKeep may t = (trees : Trees) × may trees × KeepTables trees t

-- A store was stopped and opened again: what is seen of it now is what the stop left of it.
pub record Reopens (old new : State) : Type 0 where
  pub left : old.may_leave new.now.trees
  pub opens : Opens new
  pub live : IsLive new

-- ---- one session

-- The replies are those of the session by this directory, one to each thing that was asked: to all
-- that was to be asked, or to nothing, where the store was not opened or there was no room.
pub record IsServed (d : Directory) (exchanges : List Exchange) (replies : List Reply) (s : Session)
    : Type 0 where
  pub by : s.directory ≡ d
  pub told : AllZip IsSent replies s.replies
  -- what each of them tells, the calls that no customer is told of among them
  pub tells : AllZip (Tells (λ fault. ⊤) d) s.asked s.replies
  pub asked : (s.asked ≡ map (ask_of d) exchanges) ⊎ ((s.asked ≡ []) × (replies ≡ []))
  pub stopped_at : StoppedAt d s.asked s.replies s.under_way

-- the bytes of a reply tell what may be told of an exchange
abbrev pub IsReplyTo : Directory → Exchange → Reply → Type 0
IsReplyTo d x reply = (r : SeenReply) × IsSent reply r × Tells (λ fault. ⊤) d (ask_of d x) r

-- From one stop up to the next: it is a desk's still, and whatever an opening may
-- find then came by a session from what an opening may have found before.
abbrev pub PassesSession : List ℕ → Directory → List Exchange → List Reply → (Trees → Type 0) →
    (Trees → Type 0) → Type 0
PassesSession host d exchanges replies before after = KeepsDesk before → KeepsDesk after
    × ((t' : Tables) → MayKeep after t' → (t : Tables) × MayKeep before t
    × (s : Session) × IsServed d exchanges replies s × Passed host s t t')

-- ---- a history

-- what is asked in a session, by the directory of its start
pub record Visit : Type 0 where
  pub directory : Directory
  pub exchanges : List Exchange

-- each session in turn
abbrev pub AreServed : List Visit → List (List Reply) → List Session → Type 0
AreServed [] [] [] = ⊤
AreServed (v ∷ vs) (r ∷ rs) (s ∷ ss) = IsServed v.directory v.exchanges r s × AreServed vs rs ss
AreServed _ _ _ = ⊥

-- Of sessions one after another: whatever an opening may find in the end came by these sessions
-- from what an opening may have found at first.
abbrev pub PassesSessions : List ℕ → List Visit → List (List Reply) → (Trees → Type 0) →
    (Trees → Type 0) → Type 0
PassesSessions host visits replies before after = KeepsDesk before → KeepsDesk after
    × ((t' : Tables) → MayKeep after t' → (t : Tables) × MayKeep before t
    × (h : List Session) × AreServed visits replies h × InSessions (Passed host) h t t')

-- Whatever an opening may find in the end came by sessions with these replies from what an opening
-- may have found at first, and they are to every customer its own machine alone, in each session by
-- its entry in the directory of that.
abbrev pub PassesHistory : List ℕ → List Visit → List (List Reply) → (Trees → Type 0) →
    (Trees → Type 0) → Type 0
PassesHistory host visits replies before after = KeepsDesk before → KeepsDesk after
    × ((t' : Tables) → MayKeep after t' → (t : Tables) × MayKeep before t
    × (h : List Session) × AreServed visits replies h × AloneAcross host h t t')

-- ---- a migration before it

-- The trees are those of a desk with sound tables, in which each customer has the state that it had
-- in a store of version 1, lifted.
pub record BeginLifted (first : Database) (trees : Trees) : Type 0 where
  pub whole : IsWholeDesk trees
  pub sound : Sound (tables_with trees)
  pub lifted : (customer : List ℕ) →
      own customer (tables_with trees) ≡ lift (own customer (first_tables_in first))

-- Behind a migration from version 1 an opening may find that store as it was, or such a desk.
abbrev pub BeginsHistory : State → State → Type 0
BeginsHistory old new = FirstSound (first_tables_in old.now) → (trees : Trees) →
    new.may_leave trees → (trees ≡ old.now.trees) ⊎ BeginLifted old.now trees

-- The trees are those of a desk with the tables of a store of version 2.
pub record BeginUpgraded (second : Database) (trees : Trees) : Type 0 where
  pub whole : IsWholeDesk trees
  pub tables : tables_with trees ≡ second_tables_in second

-- Behind a migration from version 2 an opening may find that store as it was, or such a desk.
abbrev pub BeginsUpgraded : State → State → Type 0
BeginsUpgraded old new = Sound (second_tables_in old.now) → (trees : Trees) →
    new.may_leave trees → (trees ≡ old.now.trees) ⊎ BeginUpgraded old.now trees
