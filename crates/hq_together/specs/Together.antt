-- What exchanges do to a desk that are done in a round, and what a stop leaves of it.
use Rattle.std.specs.Prelude.{◌≡◌, ◌⊎◌, ⊤, ℕ, ◌+◌, ◌-◌, ◌^◌, ◌<◌, true, false, List, [], ◌∷◌}
use Rattle.std.specs.Prelude.{map, Result, Ok, Err}
use Rattle.std.specs.List.{AllZip}
use Rattle.hq_values.specs.declared.failure.Fault.{Fault}
use Rattle.hq_tables.specs.Shelves.{OnSound, OnOpenSound, StopLeaves, StopLeavesTables}
use Rattle.hq_tables.specs.Shelves.{StopLeavesNoMore}
use Rattle.hq_tables.specs.Sound.{Sound}
use Rattle.hq_tables.specs.Tables.{Tables}
use Rattle.hq_rules.specs.Desks.{DeskSight}
use Rattle.hq_values.specs.declared.failure.Refusal.{Refusal}
use Rattle.hq_requests.specs.Calls.{Asked, CallOf, CallOfAll}
use Rattle.hq_requests.specs.Spans.{names_in}
use Rattle.hq_requests.specs.declared.directory.Directory.{Directory}
use Rattle.hq_requests.specs.declared.reply.Reply.{Reply}
use Rattle.hq_wire.specs.Exchanges.{AllDone, Ask, IsWant, Tells, TellsClosed, Unheard}
use Rattle.hq_wire.specs.Replies.{SeenReply, IsSent, store_faults}
use Rattle.hq_wire.specs.Runs.{AllReplied, Alone, deeds}
use Rattle.hq_across.specs.Answered.{as_asked}
use Rattle.hq_across.specs.Histories.{MayFind}
use Rattle.hq_across.specs.Sessions.{StoppedAt}

-- ---- what a stop leaves

-- The store was closed as the round was to stand, and nothing of it is told. Under way are all
-- calls that it did: with these replies, which reached nobody, it would have left these tables. The
-- next opening finds these, or those of before; which these are is chosen after what it finds.
pub record ClosedInRound (may : Fault → Type 0) (host : List ℕ) (d : Directory) (asks : List Ask)
    (rs : List SeenReply) (last t' : Tables) (under_way : List Unheard) : Type 0 where
  pub untold : deeds asks rs ≡ []
  pub replies : List SeenReply
  pub tables : Tables
  pub replied : AllReplied may host d last asks replies tables
  pub calls : under_way ≡ map as_asked (deeds asks replies)
  pub all_or_none : (t' ≡ last) ⊎ (t' ≡ tables)

-- What was asked in a round is a session from the tables t, behind which the next opening finds the
-- tables t'.
pub record IsRoundSession (may : Fault → Type 0) (host : List ℕ) (d : Directory) (asks : List Ask)
    (rs : List SeenReply) (t t' : Tables) : Type 0 where
  pub under_way : List Unheard
  -- the tables after what is told
  pub last : Tables
  pub done : AllDone host d t (deeds asks rs) last
  pub stopped_at : StoppedAt d asks rs under_way
      ⊎ ClosedInRound may host d asks rs last t' under_way
  pub found : MayFind host d last under_way t'

-- ---- what is told of a closed store

-- some reply tells 93
abbrev pub SomeTellsClosed : List SeenReply → Type 0
SomeTellsClosed [] = ⊥
SomeTellsClosed (r ∷ rs) = TellsClosed r ⊎ SomeTellsClosed rs

-- what was asked made no call: it was refused before, or asked no customer, or memory was wanted
abbrev pub MakesNoCall : (Fault → Type 0) → Directory → Ask → SeenReply → Type 0
MakesNoCall may d a r = IsWant may r ⊎ MakesNone a.called
  where
    MakesNone : Result Asked Refusal → Type 0
    MakesNone (Err refusal) = ⊤
    MakesNone (Ok (CallOf name call)) = ⊥
    MakesNone (Ok (CallOfAll whom call)) = names_in d whom ≡ []

-- ---- what a round does

-- What many exchanges do to a desk, whether they were done together or each by itself.
pub record ServedInRound {D : Type 0} (sight : DeskSight D) (d : Directory) (old : D)
    (asks : List Ask) (rs : List SeenReply) (new : D) : Type 0 where
  pub replied : OnOpenSound sight.store old new
      (AllReplied sight.store.may_answer (sight.host old) d (sight.store.tables old) asks rs
      (sight.store.tables new))
  -- what each reply tells, whatever the store is
  pub tells : AllZip (Tells sight.store.may_answer d) asks rs
  -- the headline
  pub alone : OnOpenSound sight.store old new
      (Alone (sight.host old) d asks rs (sight.store.tables old) (sight.store.tables new))
  -- 93 is told only where the store is closed then
  pub closed : SomeTellsClosed rs → sight.store.is_closed new ≡ true
  -- and where it is closed, some reply tells this, or nothing that was asked made a call
  pub anyway : sight.store.is_closed new ≡ true → SomeTellsClosed rs
      ⊎ AllZip (MakesNoCall sight.store.may_answer d) asks rs
  pub sound : OnOpenSound sight.store old new (Sound (sight.store.tables new))
  pub ours : OnOpenSound sight.store old new (sight.store.is_ours new)
  pub quiet : sight.store.is_clean new → sight.store.is_clean old
  pub stays_open : sight.store.is_closed new ≡ false → sight.store.is_closed old ≡ false
  pub host : sight.host new ≡ sight.host old
  -- while the desk is open, a stop leaves its tables
  pub rests : OnOpenSound sight.store old new (StopLeavesTables sight.store old →
      StopLeavesTables sight.store new)
  -- a desk that was closed does nothing
  pub shut : sight.store.is_clean new → sight.store.is_closed old ≡ true → deeds asks rs ≡ []
  pub leaves : sight.store.is_clean new → sight.store.is_closed old ≡ true →
      StopLeavesNoMore sight.store old new
  -- 91 and 93 are told as often as the shelf counted a fault, as long as its count does not stand
  -- still
  pub counted : sight.store.fault_count new < 2 ^ 64 - 1 →
      store_faults rs + sight.store.fault_count old ≡ sight.store.fault_count new
  -- wherever in it a stop comes
  pub stops : OnSound sight.store old new (StopLeavesTables sight.store old →
      StopLeaves sight.store new (IsRoundSession sight.store.may_answer (sight.host old) d asks rs
      (sight.store.tables old)))

-- A round that does not stand: nothing of it is done; but where the store was closed as it was to
-- stand, a stop may leave all that it made.
pub record GoesBack {D : Type 0} (sight : DeskSight D) (d : Directory) (old : D) (asks : List Ask)
    (new : D) : Type 0 where
  pub same : OnOpenSound sight.store old new (sight.store.tables new ≡ sight.store.tables old)
  pub ours : OnOpenSound sight.store old new (sight.store.is_ours new)
  pub quiet : sight.store.is_clean new → sight.store.is_clean old
  pub stays_open : sight.store.is_closed new ≡ false → sight.store.is_closed old ≡ false
  pub host : sight.host new ≡ sight.host old
  pub rests : OnOpenSound sight.store old new (StopLeavesTables sight.store old →
      StopLeavesTables sight.store new)
  pub leaves : sight.store.is_clean new → sight.store.is_closed old ≡ true →
      StopLeavesNoMore sight.store old new
  pub counted : sight.store.fault_count new ≡ sight.store.fault_count old
  pub stops : OnSound sight.store old new (StopLeavesTables sight.store old →
      StopLeaves sight.store new (λ t. (t ≡ sight.store.tables old)
      ⊎ ((rs : List SeenReply)
      × AllReplied sight.store.may_answer (sight.host old) d (sight.store.tables old) asks rs t)))

-- with the replies as they are sent
pub record RoundSo {D : Type 0} (sight : DeskSight D) (d : Directory) (old : D) (asks : List Ask)
    (replies : List Reply) (new : D) : Type 0 where
  pub told : List SeenReply
  pub sent : AllZip IsSent replies told
  pub served : ServedInRound sight d old asks told new
