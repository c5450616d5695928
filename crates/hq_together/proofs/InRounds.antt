-- Rounds one after another are one run.
use Rattle.std.proofs.Common.{◌≡◌, false, List, [], ◌∷◌, ap, subst}
use Rattle.hq_values.specs.Turns.{InTurn}
use Rattle.hq_values.proofs.Turns.{turns_on}
use Rattle.hq_tables.specs.Shelves.{OnOpenSound}
use Rattle.hq_tables.specs.Tables.{Tables}
use Rattle.hq_rules.specs.Desks.{DeskSight}
use Rattle.hq_requests.specs.declared.directory.Directory.{Directory}
use Rattle.hq_wire.specs.Exchanges.{Ask, MayReply}
use Rattle.hq_wire.specs.Replies.{SeenReply}
use Rattle.hq_wire.specs.Runs.{AllReplied, Alone}
use Rattle.hq_wire.proofs.Alone.{alone}
use Rattle.hq_together.specs.Sessions.{all_in}
use Rattle.hq_together.specs.Together.{ServedInRound}
use Rattle.hq_together.proofs.InTurns.{was_clean}

module _ {D : Type 0} (sight : DeskSight D) (d : Directory) where
  abbrev tables : D → Tables
  tables = sight.store.tables

  abbrev Replied : D → List Ask → List SeenReply → D → Type 0
  Replied old asks rs new = AllReplied sight.store.may_answer (sight.host old) d (tables old) asks
      rs (tables new)

  -- what is open behind rounds was open
  was_open : (old new : D) (asked : List (List Ask)) (replied : List (List SeenReply)) →
      InTurn (ServedInRound sight d) old asked replied new →
      sight.store.is_closed new ≡ false → sight.store.is_closed old ≡ false
  was_open old new [] [] p open_ = subst (λ s. sight.store.is_closed s ≡ false) p open_
  was_open old new [] (rs ∷ replied) p open_ = absurd p
  was_open old new (asks ∷ asked) [] p open_ = absurd p
  was_open old new (asks ∷ asked) (rs ∷ replied) p open_ =
      p.1.stays_open (was_open p.0 new asked replied p.2 open_)

  -- all are replied to as one run is
  pub replied_as_one : (old new : D) (asked : List (List Ask)) (replied : List (List SeenReply)) →
      InTurn (ServedInRound sight d) old asked replied new → OnOpenSound sight.store old new
      (Replied old (all_in asked) (all_in replied) new)
  replied_as_one old new [] [] p = λ clean ours open_ sound. ap tables p
  replied_as_one old new [] (rs ∷ replied) p = absurd p
  replied_as_one old new (asks ∷ asked) [] p = absurd p
  replied_as_one old new (asks ∷ asked) (rs ∷ replied) p = λ clean ours open_ sound.
      let mid = p.0 in
      let one = p.1 in
      let before = was_clean sight d mid new asked replied p.2 clean in
      let opened = was_open mid new asked replied p.2 open_ in
      let rest = replied_as_one mid new asked replied p.2 clean
      (one.ours before ours opened sound) open_ (one.sound before ours opened sound) in
      turns_on (MayReply sight.store.may_answer (sight.host old) d) (tables old) (tables mid)
      (tables new) asks (all_in asked) rs (all_in replied) (one.replied before ours opened sound)
      (subst (λ h. AllReplied sight.store.may_answer h d (tables mid) (all_in asked)
      (all_in replied) (tables new)) one.host rest)

  -- and to every customer they are its own machine alone
  pub alone_as_one : (old new : D) (asked : List (List Ask)) (replied : List (List SeenReply)) →
      InTurn (ServedInRound sight d) old asked replied new → OnOpenSound sight.store old new
      (Alone (sight.host old) d (all_in asked) (all_in replied) (tables old) (tables new))
  alone_as_one old new asked replied p = λ clean ours open_ sound.
      alone sight.store.may_answer (sight.host old) d (tables old) (tables new) (all_in asked)
      (all_in replied) (replied_as_one old new asked replied p clean ours open_ sound)
