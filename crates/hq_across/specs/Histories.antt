-- Histories: sessions over one store, one after another, each by its own directory, until the store
-- was closed or the machine stopped.
use Rattle.std.specs.Prelude.{◌≡◌, ℕ, suc, List, [], ◌∷◌, ◌++◌, map, filter, take}
use Rattle.std.specs.Ordering.{eq_by_cmp}
use Rattle.hq_kept.specs.declared.account.Entry.{Entry}
use Rattle.hq_tables.specs.Sound.{Sound}
use Rattle.hq_tables.specs.Tables.{State, Tables, text_cmp, own}
use Rattle.hq_rules.specs.Machine.{answers, state_after}
use Rattle.hq_rules.specs.declared.call.Call.{Call}
use Rattle.hq_requests.specs.Directories.{entry_of}
use Rattle.hq_requests.specs.declared.directory.Directory.{Directory}
use Rattle.hq_wire.specs.Exchanges.{Ask, Told, Unheard, calls_asked, after_calls}
use Rattle.hq_wire.specs.Replies.{SeenReply}
use Rattle.hq_wire.specs.Runs.{Alone, Shared, share, heard, calls_in, told_in}

-- A session: the directory of its start, what was asked and replied to, and the calls under way as
-- it stopped, of which no reply tells.
pub record Session : Type 0 where
  pub directory : Directory
  pub asked : List Ask
  pub replies : List SeenReply
  pub under_way : List Unheard

-- nothing was under way
abbrev pub uncut : Directory → List Ask → List SeenReply → Session
uncut d asked replies = record {
  directory = d;
  asked = asked;
  replies = replies;
  under_way = [];
}

-- this exchange was under way, whose reply never came
abbrev pub cut_with : Directory → List Ask → List SeenReply → Ask → Session
cut_with d asked replies a = record {
  directory = d;
  asked = asked;
  replies = replies;
  under_way = calls_asked d a.at a.called;
}

-- of these calls, those of one customer
abbrev pub of_customer : List ℕ → List Unheard → List (ℕ × Call)
of_customer c us = map (λ (u : Unheard). (u.at, u.call))
    (filter (λ (u : Unheard). eq_by_cmp text_cmp c u.customer) us)

-- ---- one customer's share of a history

-- its entry in the directory of one session, and its calls of that: those that were replied to, and
-- those under way that were done
pub record SessionShare : Type 0 where
  pub entry : Entry
  pub told : List Shared
  pub untold : List (ℕ × Call)

-- its calls of each session; `done` says of each, from 0, how many of the calls under way were
-- done, from the first
abbrev pub share_across : List ℕ → (ℕ → ℕ) → List Session → List SessionShare
share_across c done [] = []
share_across c done (s ∷ ss) = record {
  entry = entry_of s.directory c;
  told = share c s.asked s.replies;
  untold = of_customer c (take (done 0) s.under_way);
} ∷ share_across c (λ i. done (suc i)) ss

-- what it heard
abbrev pub heard_across : List ℕ → List Session → List Told
heard_across c [] = []
heard_across c (s ∷ ss) = heard c s.asked s.replies ++ heard_across c ss

-- the state of its machine after one session: its calls in order, told or not
abbrev pub state_behind : List ℕ → State → SessionShare → State
state_behind host s p =
    state_after host p.entry (state_after host p.entry s (calls_in p.told)) p.untold

-- and after all of them
abbrev pub state_across : List ℕ → State → List SessionShare → State
state_across host s [] = s
state_across host s (p ∷ ps) = state_across host (state_behind host s p) ps

-- what its machine answers to what is told; the answer to a call under way reaches nobody
abbrev pub told_across : List ℕ → List ℕ → State → List SessionShare → List Told
told_across host c s [] = []
told_across host c s (p ∷ ps) = told_in c p.told (answers host p.entry s (calls_in p.told))
    ++ told_across host c (state_behind host s p) ps

-- ---- the headline across stops

-- Of each session it is settled how many of the calls under way were done, the same for all
-- customers. Then for every customer there is its machine, started from its own state and given its
-- share of the calls alone, in each session by its entry there. Over all sessions the customer
-- hears what that machine answers, and what is kept of it at the end is the state that the machine
-- is left in. Who is not in a directory has no call in that session, and its state stays.
pub record AloneAcross (host : List ℕ) (h : List Session) (t t' : Tables) : Type 0 where
  pub done : ℕ → ℕ
  pub replies : (c : List ℕ) → heard_across c h
      ≡ told_across host c (own c t) (share_across c done h)
  pub state : (c : List ℕ) → own c t' ≡ state_across host (own c t) (share_across c done h)

-- ---- what one session gives

-- the next opening finds the tables that the first calls under way leave, or none
abbrev pub MayFind : List ℕ → Directory → Tables → List Unheard → Tables → Type 0
MayFind host d t under_way t' = (count : ℕ)
    × (t' ≡ after_calls host d t (take count under_way))

-- A session from the tables t, behind which the next opening finds the tables t'.
pub record Passed (host : List ℕ) (s : Session) (t t' : Tables) : Type 0 where
  -- the tables after the last reply
  pub last : Tables
  pub alone : Alone host s.directory s.asked s.replies t last
  pub sound : Sound t → Sound last
  pub found : MayFind host s.directory last s.under_way t'

-- one session after another, each from the tables that were found behind the one before
abbrev pub InSessions : (Session → Tables → Tables → Type 0) → List Session → Tables → Tables →
    Type 0
InSessions one [] t t' = t' ≡ t
InSessions one (s ∷ ss) t t' = (next : Tables) × one s t next × InSessions one ss next t'
