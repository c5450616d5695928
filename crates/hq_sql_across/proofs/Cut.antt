-- A stop in a round of which no reply left.
use Rattle.std.proofs.Common.{◌≡◌, ⊎_elim, ℕ, suc, true, false}
use Rattle.std.proofs.Common.{List, [], ◌∷◌, ◌++◌, map, take, length, sym, refl, ap, ◌∙◌}
use Rattle.std.proofs.Common.{subst}
use Rattle.hq_values.specs.Turns.{InTurn}
use Rattle.hq_values.specs.declared.failure.Fault.{Fault}
use Rattle.hq_tables.specs.Shelves.{StopLeaves}
use Rattle.hq_tables.specs.Tables.{Tables}
use Rattle.hq_rules.specs.Desks.{DeskSight}
use Rattle.hq_rules.specs.Machine.{shared}
use Rattle.hq_requests.specs.Directories.{entry_of}
use Rattle.hq_requests.specs.declared.directory.Directory.{Directory}
use Rattle.hq_wire.specs.Exchanges.{AllDone, Ask}
use Rattle.hq_wire.specs.Exchanges.{Unheard, after_calls}
use Rattle.hq_wire.specs.Replies.{SeenReply}
use Rattle.hq_wire.specs.Runs.{AllReplied, deeds}
use Rattle.hq_across.specs.Answered.{as_asked}
use Rattle.hq_across.specs.Histories.{Passed}
use Rattle.hq_across.specs.Sessions.{IsJustOpened, StoppedAt}
use Rattle.hq_together.specs.Sessions.{all_in}
use Rattle.hq_together.specs.Together.{ClosedInRound, IsRoundSession, ServedInRound}
use Rattle.hq_together.proofs.InRounds.{alone_as_one}
use Rattle.hq_together.proofs.InTurns.{was_clean}
use Rattle.hq_together.proofs.Inside.{all_after, all_done, whole}
use Rattle.hq_sql_across.specs.Rounds.{AreUntold, IsCutIn}
use Rattle.hq_sql_across.proofs.Calls.{nothing_told, calls_untold, calls_stopped}

-- ---- calls behind calls

after_more : (host : List ℕ) (d : Directory) (t : Tables) (us vs : List Unheard) →
    after_calls host d t (us ++ vs) ≡ after_calls host d (after_calls host d t us) vs
after_more host d t [] vs = refl
after_more host d t (u ∷ us) vs = after_more host d
    (shared host (entry_of d u.customer) t u.at u.call).1 us vs

-- as many as there are, and so many more
abbrev all_and : {A : Type 0} → List A → ℕ → ℕ
all_and [] n = n
all_and (x ∷ xs) n = suc (all_and xs n)

take_over : {A : Type 0} (xs ys : List A) (n : ℕ) →
    take (all_and xs n) (xs ++ ys) ≡ xs ++ take n ys
take_over [] ys n = refl
take_over (x ∷ xs) ys n = ap (λ zs. x ∷ zs) (take_over xs ys n)

-- ---- a stop in a round

module _ {D : Type 0} (sight : DeskSight D) (d : Directory) where
  abbrev tables : D → Tables
  tables = sight.store.tables

  abbrev Rounds : D → List (List Ask) → List (List SeenReply) → D → Type 0
  Rounds = InTurn (ServedInRound sight d)

  -- an open desk is as it was opened, and has the relay's name still
  record StaysOpened (old new : D) : Type 0 where
    pub opened : IsJustOpened sight new
    pub host : sight.host new ≡ sight.host old

  was_open : (old new : D) (asked : List (List Ask)) (replied : List (List SeenReply)) →
      Rounds old asked replied new →
      sight.store.is_closed new ≡ false → sight.store.is_closed old ≡ false
  was_open old new [] [] h open_ = subst (λ s. sight.store.is_closed s ≡ false) h open_
  was_open old new [] (rs ∷ replied) h open_ = absurd h
  was_open old new (asks ∷ asked) [] h open_ = absurd h
  was_open old new (asks ∷ asked) (rs ∷ replied) h open_ =
      h.1.stays_open (was_open h.0 new asked replied h.2 open_)

  stays_opened : (old new : D) (asked : List (List Ask)) (replied : List (List SeenReply)) →
      Rounds old asked replied new → sight.store.is_clean new →
      sight.store.is_closed new ≡ false → IsJustOpened sight old → StaysOpened old new
  stays_opened old new [] [] h clean open_ opened =
      subst (StaysOpened old) (sym h) (record { opened = opened; host = refl })
  stays_opened old new [] (rs ∷ replied) h clean open_ opened = absurd h
  stays_opened old new (asks ∷ asked) [] h clean open_ opened = absurd h
  stays_opened old new (asks ∷ asked) (rs ∷ replied) h clean open_ opened =
      let one = h.1 in
      let before = was_clean sight d h.0 new asked replied h.2 clean in
      let mid_open = was_open h.0 new asked replied h.2 open_ in
      let rest = stays_opened h.0 new asked replied h.2 clean open_ (record {
        ours = one.ours before opened.ours mid_open opened.sound;
        sound = one.sound before opened.ours mid_open opened.sound;
        rests = one.rests before opened.ours mid_open opened.sound opened.rests;
      }) in
      record { opened = rest.opened; host = rest.host ∙ one.host }

  module _ (old mid new : D) (asked : List (List Ask)) (replied : List (List SeenReply))
      (asks : List Ask) (rs : List SeenReply) (firsts : Rounds old asked replied mid)
      (one : ServedInRound sight d mid asks rs new)
      (mid_open : sight.store.is_closed mid ≡ false) (opened : IsJustOpened sight old)
      (clean : sight.store.is_clean new) where
    abbrev host : List ℕ
    host = sight.host old

    abbrev may : Fault → Type 0
    may = sight.store.may_answer

    mid_clean : sight.store.is_clean mid
    mid_clean = one.quiet clean

    here : StaysOpened old mid
    here = stays_opened old mid asked replied firsts mid_clean mid_open opened

    abbrev Cut : Tables → Type 0
    Cut = IsCutIn host d asked replied asks (tables old)

    -- so many of these calls were done
    cut_after : (us : List Unheard) (n : ℕ) (t' : Tables) → AreUntold d asks [] us →
        t' ≡ after_calls host d (tables mid) (take n us) → Cut t'
    cut_after us n t' calls found = record {
      under_way = us;
      calls = calls;
      passed = record {
        last = tables mid;
        alone = alone_as_one sight d old mid asked replied firsts mid_clean opened.ours mid_open
            opened.sound;
        sound = λ sound. here.opened.sound;
        found = (n, found);
      };
    }

    -- it stood, or was done, and no reply left
    cut_done : sight.store.is_closed new ≡ false → (t' : Tables) → t' ≡ tables new → Cut t'
    cut_done open_ t' is =
        let us = map as_asked (deeds asks rs) in
        let replied_here = subst (λ h. AllReplied may h d (tables mid) asks rs (tables new))
        here.host (one.replied clean here.opened.ours open_ here.opened.sound) in
        cut_after us (length us) t'
        (calls_untold may host d (tables mid) (tables new) asks rs [] replied_here
        (nothing_told asks))
        (is ∙ all_after host d (tables mid) (tables new) (deeds asks rs)
        (all_done may host d (tables mid) (tables new) asks rs replied_here)
        ∙ ap (after_calls host d (tables mid)) (sym (whole us)))

    -- all of it is under way, and done
    pub unsent : sight.store.is_closed new ≡ false → StopLeaves sight.store new (λ t'.
        (it : Passed host (record {
          directory = d;
          asked = all_in asked;
          replies = all_in replied;
          under_way = map as_asked (deeds asks rs);
        }) (tables old) t') × (it.found.0 ≡ length (map as_asked (deeds asks rs))))
    unsent open_ =
        let rests = one.rests clean here.opened.ours open_ here.opened.sound here.opened.rests in
        let us = map as_asked (deeds asks rs) in
        let replied_here = subst (λ h. AllReplied may h d (tables mid) asks rs (tables new))
        here.host (one.replied clean here.opened.ours open_ here.opened.sound) in (
          rests.0,
          λ t' leaves. (
            record {
              last = tables mid;
              alone = alone_as_one sight d old mid asked replied firsts mid_clean opened.ours
                  mid_open opened.sound;
              sound = λ sound. here.opened.sound;
              found = (
                length us,
                rests.1 t' leaves ∙ all_after host d (tables mid) (tables new) (deeds asks rs)
                    (all_done may host d (tables mid) (tables new) asks rs replied_here)
                    ∙ ap (after_calls host d (tables mid)) (sym (whole us)),
              );
            },
            refl,
          ),
        )

    -- the store was closed in it
    cut_closed : (t' : Tables) → IsRoundSession may host d asks rs (tables mid) t' → Cut t'
    cut_closed t' it = ⊎_elim one_by_one together it.stopped_at where
      one_by_one : StoppedAt d asks rs it.under_way → Cut t'
      one_by_one stopped =
          let told = map as_asked (deeds asks rs) in
          cut_after (told ++ it.under_way) (all_and told it.found.0) t'
          (calls_stopped may d asks rs it.under_way one.tells stopped)
          (it.found.1
          ∙ ap (λ t. after_calls host d t (take it.found.0 it.under_way))
          (all_after host d (tables mid) it.last (deeds asks rs) it.done)
          ∙ sym (after_more host d (tables mid) told (take it.found.0 it.under_way))
          ∙ ap (after_calls host d (tables mid)) (sym (take_over told it.under_way it.found.0)))

      together : ClosedInRound may host d asks rs it.last t' it.under_way → Cut t'
      together closed =
          let from : it.last ≡ tables mid = subst (λ ds. AllDone host d (tables mid) ds it.last)
          closed.untold it.done in
          cut_after it.under_way it.found.0 t'
          (subst (AreUntold d asks []) (sym closed.calls) (calls_untold may host d it.last
          closed.tables asks closed.replies [] closed.replied (nothing_told asks)))
          (it.found.1 ∙ ap (λ t. after_calls host d t (take it.found.0 it.under_way)) from)

    pub cut : StopLeaves sight.store new Cut
    cut = elim (sight.store.is_closed new) as (λ b. sight.store.is_closed new ≡ b →
        StopLeaves sight.store new Cut) [
          | false ↦ λ open_.
              let rests = one.rests clean here.opened.ours open_ here.opened.sound
              here.opened.rests in
              (rests.0, λ t' leaves. cut_done open_ t' (rests.1 t' leaves))
          | true ↦ λ closed.
              let left = one.stops clean here.opened.ours here.opened.sound here.opened.rests in (
                left.0,
                λ t' leaves. cut_closed t' (subst (λ h.
                    IsRoundSession may h d asks rs (tables mid) t') here.host
                    (left.1 t' leaves)),
              )
        ] refl
