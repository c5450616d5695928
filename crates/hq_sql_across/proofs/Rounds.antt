-- What one session of a server over a store passes on.
use Rattle.std.specs.Global.{Global}
use Rattle.std.proofs.Common.{◌≡◌, ℕ, false, List, [], ◌∷◌, inl, map, flat_map, refl}
use Rattle.std.specs.Prelude.{⊤}
use Rattle.sqlite.specs.Held.{state}
use Rattle.sqlite.specs.State.{HasCleanDisk}
use Rattle.sqlite.specs.Tree.{Trees}
use Rattle.sqlite_trees.specs.declared.store.Store.{Ghosts}
use Rattle.hq_values.specs.Turns.{InTurn}
use Rattle.hq_values.specs.declared.failure.Fault.{Fault}
use Rattle.hq_tables.specs.Shelves.{StopLeaves}
use Rattle.hq_tables.specs.Sound.{Sound}
use Rattle.hq_tables.specs.Tables.{Tables}
use Rattle.hq_rules.specs.Desks.{DeskSight}
use Rattle.hq_desk.specs.Desks.{host_of, on, shelf_of}
use Rattle.hq_desk.specs.declared.desk.Desk.{Desk}
use Rattle.hq_requests.specs.declared.directory.Directory.{Directory}
use Rattle.std.specs.List.{AllZip}
use Rattle.hq_wire.specs.Exchanges.{Ask, Tells, with_refusals}
use Rattle.hq_sql_across.proofs.Telling.{tells_any}
use Rattle.hq_wire.specs.Replies.{SeenReply}
use Rattle.hq_wire.proofs.Alone.{alone}
use Rattle.hq_across.specs.Histories.{Passed}
use Rattle.hq_across.specs.Sessions.{IsJustOpened}
use Rattle.hq_across.proofs.Across.{across_sound}
use Rattle.hq_together.specs.Sessions.{AreRoundsOfSession}
use Rattle.hq_together.specs.Together.{ServedInRound}
use Rattle.hq_together.proofs.InTurns.{are_rounds_of_session, was_clean}
use Rattle.hq_serve.specs.Coming.{HaveOutcomes, RoundDone, Serving, round_asks, round_events}
use Rattle.hq_serve.specs.Coming.{round_replies, round_taken}
use Rattle.hq_sql.specs.Tables.{tables_in}
use Rattle.hq_sql_open.specs.Found.{tables_with}
use Rattle.hq_sql_shelf.specs.declared.shelf.SqlShelf.{SqlShelf}
use Rattle.hq_sql_shelf.specs.Shelf.{is_doubtful, sight_over}
use Rattle.hq_sql_across.specs.Rounds.{IsServedInRounds, RoundsSession, in_turn}
use Rattle.hq_sql_across.specs.Stopped.{KeepsDesk, MayKeep}
use Rattle.hq_sql_across.proofs.Calls.{of_one_round}
use Rattle.hq_sql_across.proofs.Found.{keep_whole, sound_found}
use Rattle.hq_sql_across.proofs.Passing.{Taken, stands_sure}

rounds_tell : {D : Type 0} (sight : DeskSight D) (d : Directory) (old new : D)
    (asked : List (List Ask)) (replied : List (List SeenReply)) →
    InTurn (ServedInRound sight d) old asked replied new →
    AllZip (AllZip (Tells (λ fault. ⊤) d)) asked replied
rounds_tell sight d old new [] [] h = tt
rounds_tell sight d old new [] (rs ∷ replied) h = absurd h
rounds_tell sight d old new (asks ∷ asked) [] h = absurd h
rounds_tell sight d old new (asks ∷ asked) (rs ∷ replied) h = (
  tells_any sight.store.may_answer d asks rs h.1.tells,
  rounds_tell sight d h.0 new asked replied h.2,
)

module _ {K : Type 0} (does : Serving K) (clients_old clients_new : K) (d : Directory) where
  -- by such a session what may be found behind it came from what might have been found before
  abbrev pub Passes : List ℕ → (Trees → Type 0) → (Trees → Type 0) → Type 0
  Passes host before after = KeepsDesk after
      × ((t' : Tables) → MayKeep after t' → (t : Tables) × MayKeep before t
      × (s : RoundsSession) × IsServedInRounds does clients_old clients_new d s
      × Passed host (in_turn s) t t')

  -- where nobody was served, the tables stay
  pub nobody_served : (host : List ℕ) (before after : Trees → Type 0) →
      does clients_old [] clients_new → (KeepsDesk before → KeepsDesk after
      × ((t : Tables) → MayKeep after t → MayKeep before t)) → KeepsDesk before →
      Passes host before after
  nobody_served host before after idle stops keeps =
      let left = stops keeps in (
        left.0,
        λ t' may. (
          t',
          left.1 t' may,
          record { directory = d; asked = []; replied = []; under_way = [] },
          record {
            by = refl;
            rounds = [];
            are_taken = tt;
            asked = refl;
            replied = refl;
            tells = tt;
            under_way = refl;
            clients = idle;
          },
          record {
            last = t';
            alone = alone (λ (fault : Fault). ⊤) host d t' t' [] [] refl;
            sound = λ sound. sound;
            found = (0, refl);
          },
        ),
      )

  module _ {S : Type 0} (g : Ghosts S) (before : Trees → Type 0) (keeps : KeepsDesk before)
      (old new : Desk (SqlShelf S Global)) (taken : Taken g before (shelf_of old))
      (rounds : List RoundDone) (outcomes : HaveOutcomes ⊤ (flat_map round_taken rounds))
      (served : InTurn (ServedInRound (with_refusals ⊤ (on (sight_over ⊤ ⊤ (state g)))) d) old
      (map (round_asks d) rounds) (map round_replies rounds) new)
      (clients : does clients_old (flat_map round_events rounds) clients_new)
      (clean : HasCleanDisk (state g (shelf_of new).conn))
      (sure : is_doubtful (shelf_of new).standing ≡ false) where
    abbrev sight : DeskSight (Desk (SqlShelf S Global))
    sight = with_refusals ⊤ (on (sight_over ⊤ ⊤ (state g)))

    abbrev asked : List (List Ask)
    asked = map (round_asks d) rounds

    abbrev replied : List (List SeenReply)
    replied = map round_replies rounds

    abbrev tables : Tables
    tables = tables_in (state g (shelf_of old).conn).committed

    abbrev after : Trees → Type 0
    after = (state g (shelf_of new).conn).may_leave

    seen : sight.store.is_clean new
    seen = (clean, stands_sure (shelf_of new).standing (state g (shelf_of new).conn) sure)

    was : sight.store.is_clean old
    was = was_clean sight d old new asked replied served seen

    sound : Sound tables
    sound = sound_found before tables keeps (taken.found was.0).1

    opened : IsJustOpened sight old
    opened = record { ours = (taken.found was.0).0; sound = sound; rests = taken.rests was.0 }

    all : StopLeaves sight.store new
        (AreRoundsOfSession sight.store.may_answer (host_of old) d asked replied tables)
    all = are_rounds_of_session sight d old new asked replied served opened seen

    session : (t' : Tables) → sight.store.may_leave new t' → (s : RoundsSession)
        × IsServedInRounds does clients_old clients_new d s
        × Passed (host_of old) (in_turn s) tables t'
    session t' left = let it = all.1 t' left in (
      record {
        directory = d;
        asked = asked;
        replied = replied;
        under_way = it.under_way;
      },
      record {
        by = refl;
        rounds = rounds;
        are_taken = outcomes;
        asked = refl;
        replied = refl;
        tells = rounds_tell sight d old new asked replied served;
        under_way = of_one_round sight.store.may_answer (host_of old) d it.passed.last t' asked
            replied it.under_way it.stopped_in;
        clients = clients;
      },
      it.passed,
    )

    keeps_on : KeepsDesk after
    keeps_on trees left =
        let one = session (tables_with trees) (trees, left, refl) in inl (
          all.0 trees left,
          across_sound (host_of old) (in_turn one.0 ∷ []) tables (tables_with trees)
              (tables_with trees, one.2, refl) sound,
        )

    passed_on : (t' : Tables) → MayKeep after t' → (t : Tables) × MayKeep before t
        × (s : RoundsSession) × IsServedInRounds does clients_old clients_new d s
        × Passed (host_of old) (in_turn s) t t'
    passed_on t' (trees, left, kept) =
        let one = session t' (trees, left, keep_whole trees t' (all.0 trees left) kept) in
        (tables, (taken.found was.0).1, one.0, one.1, one.2)

    pub served_passed : Passes (host_of old) before after
    served_passed = (keeps_on, passed_on)
