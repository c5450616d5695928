-- What a round does to a desk.
use Rattle.std.proofs.Common.{◌≡◌, ◌⊎◌, inl, inr, ⊎_elim, ◌+◌, ◌-◌, ◌^◌, ◌<◌, true, false, Bool}
use Rattle.std.proofs.Common.{cond, List, [], ◌∷◌, sym, refl, ap, ◌∙◌, subst}
use Rattle.std.proofs.Common.{Result, Ok, Err, arith}
use Rattle.std.specs.Prelude.{IfOk, OnErr}
use Rattle.std.specs.List.{AllZip}
use Rattle.hq_values.specs.Refusals.{no_memory}
use Rattle.hq_values.specs.Turns.{InTurn}
use Rattle.hq_values.specs.declared.failure.Fault.{Fault}
use Rattle.hq_values.specs.declared.failure.Fault.TheVariants.{Closed}
use Rattle.hq_tables.specs.Shelves.{StopLeaves}
use Rattle.hq_tables.specs.Sound.{Sound}
use Rattle.hq_tables.specs.Tables.{Tables}
use Rattle.hq_rules.specs.Desks.{DeskSight}
use Rattle.hq_rounds.specs.Rounds.{RestsWith}
use Rattle.hq_requests.specs.declared.directory.Directory.{Directory}
use Rattle.hq_wire.specs.Exchanges.{Ask, Exchanged}
use Rattle.hq_wire.specs.Replies.{SeenReply, store_faults}
use Rattle.hq_wire.specs.Runs.{AllReplied, Served}
use Rattle.hq_wire.proofs.Alone.{alone}
use Rattle.hq_wire.proofs.Serving.{all_replied, served, tells_each}
use Rattle.hq_across.specs.Sessions.{StoppedAt}
use Rattle.hq_across.proofs.Running.{Ran as UpToStop, ran, rested}
use Rattle.hq_together.specs.Together.{GoesBack, IsRoundSession, MakesNoCall, ServedInRound}
use Rattle.hq_together.specs.Together.{SomeTellsClosed}
use Rattle.hq_together.proofs.Closing.{closing, none_called, none_told, told_closed, was_closed}
use Rattle.hq_together.proofs.Inside.{Ran, differ, all_done, replied, can_go_back}
use Rattle.hq_together.proofs.Inside.{tells_more, first_clean, first_ours, first_tables, last_ours}
use Rattle.hq_together.proofs.Wanted.{all_of_it, all_wanted, as_before, no_deeds_wanted}
use Rattle.hq_together.proofs.Wanted.{none_counted, want_tells, wants}

-- of exchanges behind which the store is open none told that it is closed
none_closed : {D : Type 0} (sight : DeskSight D) (d : Directory) (old new : D) (asks : List Ask)
    (rs : List SeenReply) → InTurn (Exchanged sight d) old asks rs new →
    sight.store.is_closed new ≡ false → StoppedAt d asks rs []
none_closed sight d old new [] rs h open_ = refl
none_closed sight d old new (a ∷ asks) [] h open_ = refl
none_closed sight d old new (a ∷ asks) (r ∷ rs) h open_ =
    let opened = (served sight d h.0 new asks rs h.2).stays.stays_open open_ in
    inr (inl (
      λ told. differ (sym (h.1.closed told) ∙ opened),
      none_closed sight d h.0 new asks rs h.2 open_,
    ))

module _ {D I : Type 0} (sight : DeskSight D) (inside : DeskSight I) (d : Directory)
    (same_faults : (fault : Fault) → inside.store.may_answer fault
    → (fault ≡ Closed) ⊎ sight.store.may_answer fault)
    (old new : D) (asks : List Ask) (rs : List SeenReply) (stands : Bool)
    (it : Ran sight inside d same_faults old asks rs stands new) where
  abbrev tables : D → Tables
  tables = sight.store.tables

  abbrev Clean : Type 0
  Clean = sight.store.is_clean new

  abbrev Ours : Type 0
  Ours = sight.store.is_ours old

  mine : Clean → Ours → inside.store.is_closed it.last ≡ false →
      inside.store.is_ours it.last
  mine = last_ours sight inside d same_faults old new asks rs stands it

  told : Clean → Ours → inside.store.is_closed it.last ≡ false → Sound (tables old) →
      AllReplied sight.store.may_answer (sight.host old) d (tables old) asks rs
      (inside.store.tables it.last)
  told = replied sight inside d same_faults old new asks rs stands it

  -- what is counted where it stands, and where it does not
  stands_counted : stands ≡ true → sight.store.fault_count new ≡ inside.store.fault_count it.last
  stands_counted up = subst (λ (b : Bool). sight.store.fault_count new
      ≡ cond b (inside.store.fault_count it.last) (sight.store.fault_count old)) up
      it.settles.counted

  back_counted : stands ≡ false → sight.store.fault_count new ≡ sight.store.fault_count old
  back_counted down = subst (λ (b : Bool). sight.store.fault_count new
      ≡ cond b (inside.store.fault_count it.last) (sight.store.fault_count old)) down
      it.settles.counted

  -- it stands
  pub stood : stands ≡ true → ServedInRound sight d old asks rs new
  stood up =
      let both = it.settles.stays_open up in
      let made : Clean → Ours → tables new ≡ inside.store.tables it.last =
      λ clean ours. (it.settles.made clean (mine clean ours both.0) up).tables in
      let all : Clean → Ours → Sound (tables old) →
      AllReplied sight.store.may_answer (sight.host old) d (tables old) asks rs (tables new) =
      λ clean ours sound. subst
      (AllReplied sight.store.may_answer (sight.host old) d (tables old) asks rs)
      (sym (made clean ours)) (told clean ours both.0 sound) in
      let sounds : Clean → Ours → Sound (tables old) → Sound (tables new) =
      λ clean ours sound. subst Sound (sym (made clean ours))
      (it.each.sound (it.settles.quiet clean)
      (first_ours sight inside d same_faults old new asks rs stands it clean ours) both.0
      (subst Sound (sym (first_tables sight inside d same_faults old new asks rs stands it clean
      ours)) sound)) in
      record {
        replied = λ clean ours open_ sound. all clean ours sound;
        tells = tells_more inside sight.store.may_answer same_faults d it.first it.last asks rs
            it.each.each both.0;
        closed = λ told. differ (sym (told_closed inside d it.first it.last asks rs it.each.each
            told) ∙ both.0);
        anyway = λ closed. differ (sym closed ∙ both.1);
        alone = λ clean ours open_ sound. alone sight.store.may_answer (sight.host old) d
            (tables old) (tables new) asks rs (all clean ours sound);
        sound = λ clean ours open_ sound. sounds clean ours sound;
        ours = λ clean ours open_ sound. (it.settles.made clean (mine clean ours both.0) up).ours;
        quiet = λ clean. it.begins.quiet
            (first_clean sight inside d same_faults old new asks rs stands it clean);
        stays_open = λ open_. it.begins.was_open;
        host = it.host ∙ it.each.stays.host ∙ it.first_host;
        rests = λ clean ours open_ sound rests.
            (it.settles.made clean (mine clean ours both.0) up).stops;
        shut = λ clean closed. differ (sym closed ∙ it.begins.was_open);
        leaves = λ clean closed. differ (sym closed ∙ it.begins.was_open);
        counted = λ small.
            let first = it.begins.counted in
            let last = stands_counted up in
            let each = it.each.counted (subst (λ n. n < 2 ^ 64 - 1) last small) in
            ap (λ n. store_faults rs + n) (sym first) ∙ each ∙ sym last;
        stops = λ clean ours sound rests.
            let left = (it.settles.made clean (mine clean ours both.0) up).stops in (
              left.0,
              λ t' may. record {
                under_way = [];
                last = tables new;
                done = all_done sight.store.may_answer (sight.host old) d (tables old)
                    (tables new) asks rs (all clean ours sound);
                stopped_at = inl (none_closed inside d it.first it.last asks rs it.each.each
                    both.0);
                found = (0, left.1 t' may);
              },
            );
      }

  went : (asked : List Ask) → sight.store.fault_count new ≡ sight.store.fault_count old →
      (Clean → Ours → sight.store.is_closed new ≡ false → Sound (tables old) →
      RestsWith sight.store new (tables old)) →
      (Clean → Ours → Sound (tables old) → (t : Tables) →
      (inside.store.is_closed it.last ≡ false) × (t ≡ inside.store.tables it.last) →
      (t ≡ tables old) ⊎ ((others : List SeenReply)
      × AllReplied sight.store.may_answer (sight.host old) d (tables old) asked others t)) →
      GoesBack sight d old asked new
  went asked counted ends leaves = record {
    same = λ clean ours open_ sound. (ends clean ours open_ sound).tables;
    ours = λ clean ours open_ sound. (ends clean ours open_ sound).ours;
    quiet = λ clean. it.begins.quiet
        (first_clean sight inside d same_faults old new asks rs stands it clean);
    stays_open = λ open_. it.begins.was_open;
    host = it.host ∙ it.each.stays.host ∙ it.first_host;
    rests = λ clean ours open_ sound rests. (ends clean ours open_ sound).stops;
    leaves = λ clean closed. differ (sym closed ∙ it.begins.was_open);
    counted = counted;
    stops = λ clean ours sound rests.
        let left = it.settles.stops clean (tables old)
        (can_go_back sight inside d same_faults old new asks rs stands it clean ours)
        (mine clean ours) in (
          left.0,
          λ t' may. ⊎_elim (λ (is : t' ≡ tables old). inl is)
              (λ (did : (inside.store.is_closed it.last ≡ false)
              × (t' ≡ inside.store.tables it.last)). leaves clean ours sound t' did)
              (left.1 t' may),
        );
  }

  ended : stands ≡ false → Clean → Ours → sight.store.is_closed new ≡ false →
      RestsWith sight.store new (tables old)
  ended down clean ours open_ = it.settles.back clean (tables old)
      (can_go_back sight inside d same_faults old new asks rs stands it clean ours) open_ down

  -- it does not stand
  pub went_back : stands ≡ false → GoesBack sight d old asks new
  went_back down = went asks (back_counted down)
      (λ clean ours open_ sound. ended down clean ours open_)
      (λ clean ours sound t did. inr (
        rs,
        subst
            (AllReplied sight.store.may_answer (sight.host old) d (tables old) asks rs)
            (sym did.1) (told clean ours did.0 sound),
      ))

module _ {D : Type 0} (sight : DeskSight D) (d : Directory) (old : D) where
  abbrev rows : D → Tables
  rows = sight.store.tables

  -- nothing began
  pub stayed : (asks : List Ask) → GoesBack sight d old asks old
  stayed asks = record {
    same = λ clean ours open_ sound. refl;
    ours = λ clean ours open_ sound. ours;
    quiet = λ clean. clean;
    stays_open = λ open_. open_;
    host = refl;
    rests = λ clean ours open_ sound rests. rests;
    leaves = λ clean closed. (λ desk. desk, λ t may. may);
    counted = refl;
    stops = λ clean ours sound rests. (rests.0, λ t may. inl (rests.1 t may));
  }

  -- it went back, and each is told that memory was wanted
  pub wanted : (new : D) (asks : List Ask) → sight.store.may_answer no_memory →
      GoesBack sight d old asks new → ServedInRound sight d old asks (wants asks) new
  wanted new asks may back =
      let none = no_deeds_wanted asks in
      let all : sight.store.is_clean new → sight.store.is_ours old →
      sight.store.is_closed new ≡ false → Sound (rows old) →
      AllReplied sight.store.may_answer (sight.host old) d (rows old) asks (wants asks)
      (rows new) = λ clean ours open_ sound.
      subst (AllReplied sight.store.may_answer (sight.host old) d (rows old) asks (wants asks))
      (sym (back.same clean ours open_ sound))
      (all_wanted sight.store.may_answer (sight.host old) d (rows old) may asks) in
      record {
        replied = all;
        tells = want_tells sight.store.may_answer d may asks;
        closed = λ told. absurd (none_told asks told);
        anyway = λ closed. inr (none_called sight.store.may_answer d may asks);
        alone = λ clean ours open_ sound. alone sight.store.may_answer (sight.host old) d
            (rows old) (rows new) asks (wants asks) (all clean ours open_ sound);
        sound = λ clean ours open_ sound. subst Sound (sym (back.same clean ours open_ sound))
            sound;
        ours = back.ours;
        quiet = back.quiet;
        stays_open = back.stays_open;
        host = back.host;
        rests = back.rests;
        shut = λ clean closed. none;
        leaves = back.leaves;
        counted = λ small.
            let none = none_counted asks in
            let same = back.counted in
            omega (arith, none, same);
        stops = λ clean ours sound rests.
            let left = back.stops clean ours sound rests in (
              left.0,
              λ t' leaves. ⊎_elim (λ (is : t' ≡ rows old). as_before sight sight.store.may_answer
                  (sight.host old) d asks (wants asks) (rows old) t' none is)
                  (λ (did : (others : List SeenReply)
                  × AllReplied sight.store.may_answer (sight.host old) d (rows old) asks others
                  t'). all_of_it sight sight.store.may_answer (sight.host old) d asks (wants asks)
                  (rows old) t' none did.0 did.1) (left.1 t' leaves),
            );
      }

  module _ (mid new : D) (asks : List Ask) (rs : List SeenReply)
      (back : GoesBack sight d old asks mid) (each : Served sight d mid asks rs new) where
    was_clean : sight.store.is_clean new → sight.store.is_clean mid
    was_clean = each.stays.quiet

    still_closed : sight.store.is_closed old ≡ true → sight.store.is_closed mid ≡ true
    still_closed closed = elim (sight.store.is_closed mid) as (λ b. sight.store.is_closed mid ≡ b →
        sight.store.is_closed mid ≡ true) [
          | true ↦ λ is. is
          | false ↦ λ is. differ (sym closed ∙ back.stays_open is)
        ] refl

    -- then each was done by itself
    pub each_by_itself : ServedInRound sight d old asks rs new
    each_by_itself =
        let all : sight.store.is_clean new → sight.store.is_ours old →
        sight.store.is_closed new ≡ false → Sound (rows old) →
        AllReplied sight.store.may_answer (sight.host old) d (rows old) asks rs (rows new) =
        λ clean ours open_ sound.
        let before = was_clean clean in
        let opened = each.stays.stays_open open_ in
        let same = back.same before ours opened sound in
        subst (λ h. AllReplied sight.store.may_answer h d (rows old) asks rs (rows new)) back.host
        (subst (λ t. AllReplied sight.store.may_answer (sight.host mid) d t asks rs (rows new)) same
        (all_replied sight d mid new asks rs each.each clean
        (back.ours before ours opened sound) open_ (subst Sound (sym same) sound))) in
        record {
          replied = all;
          tells = tells_each sight d mid asks rs new each.each;
          closed = told_closed sight d mid new asks rs each.each;
          anyway = λ closed. elim (sight.store.is_closed mid) as (λ b.
              sight.store.is_closed mid ≡ b → SomeTellsClosed rs
              ⊎ AllZip (MakesNoCall sight.store.may_answer d) asks rs) [
                | true ↦ λ is. was_closed sight d mid new asks rs each.each is
                | false ↦ λ is. inl (closing sight d mid new asks rs each.each is closed)
              ] refl;
          alone = λ clean ours open_ sound. alone sight.store.may_answer (sight.host old) d
              (rows old) (rows new) asks rs (all clean ours open_ sound);
          sound = λ clean ours open_ sound.
              let before = was_clean clean in
              let opened = each.stays.stays_open open_ in
              each.sound clean (back.ours before ours opened sound) open_
              (subst Sound (sym (back.same before ours opened sound)) sound);
          ours = λ clean ours open_ sound.
              let before = was_clean clean in
              let opened = each.stays.stays_open open_ in
              each.stays.ours clean (back.ours before ours opened sound) open_;
          quiet = λ clean. back.quiet (was_clean clean);
          stays_open = λ open_. back.stays_open (each.stays.stays_open open_);
          host = each.stays.host ∙ back.host;
          rests = λ clean ours open_ sound rests.
              let before = was_clean clean in
              let opened = each.stays.stays_open open_ in
              each.stays.rests clean (back.ours before ours opened sound) open_
              (back.rests before ours opened sound rests);
          shut = λ clean closed.
              (rested sight d mid new asks rs each.each (still_closed closed) clean).nothing;
          leaves = λ clean closed.
              let rest = rested sight d mid new asks rs each.each (still_closed closed) clean in
              let less = back.leaves (was_clean clean) closed in (
                λ desk. rest.leaves.0 (less.0 desk),
                λ t may. less.1 t (rest.leaves.1 t may),
              );
          counted = λ small. ap (λ n. store_faults rs + n) (sym back.counted) ∙ each.counted small;
          stops = λ clean ours sound rests. elim (sight.store.is_closed mid) as (λ b.
              sight.store.is_closed mid ≡ b → StopLeaves sight.store new
              (IsRoundSession sight.store.may_answer (sight.host old) d asks rs (rows old))) [
                | true ↦ λ closed.
                    let rest = rested sight d mid new asks rs each.each closed clean in
                    let left = back.stops (was_clean clean) ours sound rests in (
                      rest.leaves.0 left.0,
                      λ t' may. ⊎_elim (λ (is : t' ≡ rows old).
                          as_before sight sight.store.may_answer (sight.host old) d asks rs
                          (rows old) t' rest.nothing is)
                          (λ (did : (others : List SeenReply)
                          × AllReplied sight.store.may_answer (sight.host old) d (rows old) asks
                          others t'). all_of_it sight sight.store.may_answer (sight.host old) d asks
                          rs (rows old) t' rest.nothing did.0 did.1)
                          (left.1 t' (rest.leaves.1 t' may)),
                    )
                | false ↦ λ opened.
                    let before = was_clean clean in
                    let same = back.same before ours opened sound in
                    let own = back.ours before ours opened sound in
                    let left = ran sight d mid new asks rs each.each (record {
                      ours = own;
                      sound = subst Sound (sym same) sound;
                      rests = back.rests before ours opened sound rests;
                    }) clean in (
                      left.0,
                      λ t' may.
                          let one : UpToStop (sight.host old) d asks rs (rows old) t' =
                          subst (λ h. UpToStop h d asks rs (rows old) t') back.host
                          (subst (λ t. UpToStop (sight.host mid) d asks rs t t') same
                          (left.1 t' may)) in
                          record {
                            under_way = one.under_way;
                            last = one.last;
                            done = one.done;
                            stopped_at = inl one.stopped_at;
                            found = one.found;
                          },
                    )
              ] refl;
        }

-- what is said of an answer, where it says more
pub ok_map : {X E : Type 0} (r : Result X E) (P Q : X → Type 0) → ((x : X) → P x → Q x) →
    IfOk r P → IfOk r Q
ok_map (Ok x) P Q f p = f x p
ok_map (Err e) P Q f p = tt

pub err_map : {X E : Type 0} (r : Result X E) {P Q : Type 0} → (P → Q) → OnErr r P → OnErr r Q
err_map (Ok x) f p = tt
err_map (Err e) f p = f p
