-- Rounds of a desk up to a stop are a session.
use Rattle.std.proofs.Common.{◌≡◌, inl, inr, ℕ, true, false, List, [], ◌∷◌, ◌++◌, refl, sym}
use Rattle.std.proofs.Common.{ap, ◌∙◌, subst}
use Rattle.std.specs.List.{AllZip}
use Rattle.hq_values.specs.Turns.{InTurn}
use Rattle.hq_tables.specs.Shelves.{StopLeaves, StopLeavesNoMore}
use Rattle.hq_tables.specs.Tables.{Tables}
use Rattle.hq_rules.specs.Desks.{DeskSight}
use Rattle.hq_requests.specs.declared.directory.Directory.{Directory}
use Rattle.hq_wire.specs.Exchanges.{AllDone, Ask, Deed, Unheard}
use Rattle.hq_wire.specs.Exchanges.{deeds_of}
use Rattle.hq_wire.specs.Replies.{SeenReply}
use Rattle.hq_wire.specs.Runs.{deeds}
use Rattle.hq_wire.proofs.Alone.{all_done_on, seen}
use Rattle.hq_across.specs.Histories.{MayFind}
use Rattle.hq_across.specs.Sessions.{IsJustOpened}
use Rattle.hq_across.proofs.Running.{done_sound}
use Rattle.hq_together.specs.Sessions.{AreRoundsOfSession, StopsInRound, all_in}
use Rattle.hq_together.specs.Together.{ServedInRound}
use Rattle.hq_together.proofs.Inside.{all_done, differ}

-- ---- what rounds did

append_assoc : {A : Type 0} (xs ys zs : List A) → (xs ++ ys) ++ zs ≡ xs ++ (ys ++ zs)
append_assoc [] ys zs = refl
append_assoc (x ∷ xs) ys zs = ap (λ ts. x ∷ ts) (append_assoc xs ys zs)

nothing_behind : {A : Type 0} (xs : List A) → xs ++ [] ≡ xs
nothing_behind [] = refl
nothing_behind (x ∷ xs) = ap (λ ts. x ∷ ts) (nothing_behind xs)

-- what was done by exchanges, and by others behind them
deeds_on : (P : Ask → SeenReply → Type 0) (asks more : List Ask) (rs others : List SeenReply) →
    AllZip P asks rs → deeds (asks ++ more) (rs ++ others) ≡ deeds asks rs ++ deeds more others
deeds_on P [] more [] others each = refl
deeds_on P (a ∷ asks) more (r ∷ rs) others each =
    ap (λ ds. deeds_of a.at a.called r ++ ds) (deeds_on P asks more rs others each.1)
    ∙ sym (append_assoc (deeds_of a.at a.called r) (deeds asks rs) (deeds more others))
deeds_on P [] more (r ∷ rs) others each = absurd each
deeds_on P (a ∷ asks) more [] others each = absurd each

module _ {D : Type 0} (sight : DeskSight D) (d : Directory) where
  abbrev tables : D → Tables
  tables = sight.store.tables

  abbrev Rounds : D → List (List Ask) → List (List SeenReply) → D → Type 0
  Rounds = InTurn (ServedInRound sight d)

  -- what is clean behind rounds was clean
  pub was_clean : (old new : D) (asked : List (List Ask)) (replied : List (List SeenReply)) →
      Rounds old asked replied new → sight.store.is_clean new → sight.store.is_clean old
  was_clean old new [] [] h clean = subst sight.store.is_clean h clean
  was_clean old new [] (rs ∷ replied) h clean = absurd h
  was_clean old new (asks ∷ asked) [] h clean = absurd h
  was_clean old new (asks ∷ asked) (rs ∷ replied) h clean =
      h.1.quiet (was_clean h.0 new asked replied h.2 clean)

  -- rounds of a closed desk do nothing, and leave no more than before
  record Rested (old : D) (asked : List (List Ask)) (replied : List (List SeenReply)) (new : D)
      : Type 0 where
    pub nothing : deeds (all_in asked) (all_in replied) ≡ []
    pub leaves : StopLeavesNoMore sight.store old new

  still_closed : (old new : D) (asks : List Ask) (rs : List SeenReply) →
      ServedInRound sight d old asks rs new → sight.store.is_closed old ≡ true →
      sight.store.is_closed new ≡ true
  still_closed old new asks rs one closed = elim (sight.store.is_closed new) as (λ b.
      sight.store.is_closed new ≡ b → sight.store.is_closed new ≡ true) [
        | true ↦ λ is. is
        | false ↦ λ is. differ (sym closed ∙ one.stays_open is)
      ] refl

  rested : (old new : D) (asked : List (List Ask)) (replied : List (List SeenReply)) →
      Rounds old asked replied new → sight.store.is_closed old ≡ true →
      sight.store.is_clean new → Rested old asked replied new
  rested old new [] [] h closed clean = record {
    nothing = refl;
    leaves = subst (λ n. StopLeavesNoMore sight.store old n) (sym h)
        (λ desk. desk, λ t leaves. leaves);
  }
  rested old new [] (rs ∷ replied) h closed clean = absurd h
  rested old new (asks ∷ asked) [] h closed clean = absurd h
  rested old new (asks ∷ asked) (rs ∷ replied) h closed clean =
      let one = h.1 in
      let before = was_clean h.0 new asked replied h.2 clean in
      let rest = rested h.0 new asked replied h.2
      (still_closed old h.0 asks rs one closed) clean in
      let less = one.leaves before closed in
      record {
        nothing = deeds_on _ asks (all_in asked) rs (all_in replied) one.tells
            ∙ (λ i. one.shut before closed i ++ rest.nothing i);
        leaves = (
          λ desk. rest.leaves.0 (less.0 desk),
          λ t may. less.1 t (rest.leaves.1 t may),
        );
      }

  -- what was asked in rounds, where the next opening finds the tables t'
  record UpToStop (host : List ℕ) (asked : List (List Ask)) (replied : List (List SeenReply))
      (t t' : Tables) : Type 0 where
    pub under_way : List Unheard
    pub last : Tables
    pub done : AllDone host d t (deeds (all_in asked) (all_in replied)) last
    pub stopped_in : StopsInRound sight.store.may_answer host d last t' asked replied under_way
    pub found : MayFind host d last under_way t'

  ran : (old new : D) (asked : List (List Ask)) (replied : List (List SeenReply)) →
      Rounds old asked replied new → IsJustOpened sight old → sight.store.is_clean new →
      StopLeaves sight.store new (UpToStop (sight.host old) asked replied (tables old))
  ran old new [] [] h opened clean = subst
      (λ n. StopLeaves sight.store n (UpToStop (sight.host old) [] [] (tables old))) (sym h) (
        opened.rests.0,
        λ t' leaves. record {
          under_way = [];
          last = tables old;
          done = refl;
          stopped_in = refl;
          found = (0, opened.rests.1 t' leaves);
        },
      )
  ran old new [] (rs ∷ replied) h opened clean = absurd h
  ran old new (asks ∷ asked) [] h opened clean = absurd h
  ran old new (asks ∷ asked) (rs ∷ replied) h opened clean = further h.0 h.1 h.2
      (λ now. ran h.0 new asked replied h.2 now clean) where
        further : (mid : D) → ServedInRound sight d old asks rs mid →
            Rounds mid asked replied new → (IsJustOpened sight mid → StopLeaves sight.store new
            (UpToStop (sight.host mid) asked replied (tables mid))) →
            StopLeaves sight.store new
            (UpToStop (sight.host old) (asks ∷ asked) (rs ∷ replied) (tables old))
        further mid one later next =
            let before = was_clean mid new asked replied later clean in
            let both = deeds_on _ asks (all_in asked) rs (all_in replied) one.tells in
            elim (sight.store.is_closed mid) as (λ b. sight.store.is_closed mid ≡ b →
            StopLeaves sight.store new
            (UpToStop (sight.host old) (asks ∷ asked) (rs ∷ replied) (tables old))) [
              | true ↦ λ closed.
                  let rest = rested mid new asked replied later closed clean in
                  let left = one.stops before opened.ours opened.sound opened.rests in (
                    rest.leaves.0 left.0,
                    λ t' leaves.
                        let it = left.1 t' (rest.leaves.1 t' leaves) in
                        record {
                          under_way = it.under_way;
                          last = it.last;
                          done = subst (λ (ds : List Deed). AllDone (sight.host old) d
                              (tables old) ds it.last)
                              (sym (both ∙ ap (λ ds. deeds asks rs ++ ds) rest.nothing
                              ∙ nothing_behind (deeds asks rs))) it.done;
                          stopped_in = inl (it.stopped_at, rest.nothing);
                          found = it.found;
                        },
                  )
              | false ↦ λ open_.
                  let rest = next (record {
                    ours = one.ours before opened.ours open_ opened.sound;
                    sound = one.sound before opened.ours open_ opened.sound;
                    rests = one.rests before opened.ours open_ opened.sound opened.rests;
                  }) in (
                    rest.0,
                    λ t' leaves.
                        let it : UpToStop (sight.host old) asked replied (tables mid) t' =
                        subst (λ h. UpToStop h asked replied (tables mid) t') one.host
                        (rest.1 t' leaves) in
                        record {
                          under_way = it.under_way;
                          last = it.last;
                          done = subst (λ (ds : List Deed). AllDone (sight.host old) d
                              (tables old) ds it.last) (sym both)
                              (all_done_on (sight.host old) d (tables old) (tables mid) it.last
                              (deeds asks rs) (deeds (all_in asked) (all_in replied))
                              (all_done sight.store.may_answer (sight.host old) d (tables old)
                              (tables mid) asks rs
                              (one.replied before opened.ours open_ opened.sound)) it.done);
                          stopped_in = inr it.stopped_in;
                          found = it.found;
                        },
                  )
            ] refl

  pub are_rounds_of_session : (old new : D) (asked : List (List Ask))
      (replied : List (List SeenReply)) → Rounds old asked replied new →
      IsJustOpened sight old → sight.store.is_clean new → StopLeaves sight.store new
      (AreRoundsOfSession sight.store.may_answer (sight.host old) d asked replied (tables old))
  are_rounds_of_session old new asked replied h opened clean =
      let all = ran old new asked replied h opened clean in (
        all.0,
        λ t' leaves.
            let it = all.1 t' leaves in
            let ds = deeds (all_in asked) (all_in replied) in
            record {
              under_way = it.under_way;
              passed = record {
                last = it.last;
                alone = record {
                  replies = λ c. (seen (sight.host old) d c (tables old) it.last ds it.done).told;
                  state = λ c. (seen (sight.host old) d c (tables old) it.last ds it.done).state;
                };
                sound = done_sound (sight.host old) d (tables old) it.last ds it.done;
                found = it.found;
              };
              stopped_in = it.stopped_in;
            },
      )
