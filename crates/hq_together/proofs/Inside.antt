-- A round as a desk sees it: what was done inside it is done by the desk outside of it, or by a
-- stop.
use Rattle.std.proofs.Common.{◌≡◌, ◌⊎◌, inl, inr, ⊎_elim, ℕ, true, false, Bool, List, [], ◌∷◌}
use Rattle.std.proofs.Common.{true≢false, map, take, length, Result, Ok, Err, sym, refl, ap, ◌∙◌}
use Rattle.std.proofs.Common.{subst}
use Rattle.std.specs.Prelude.{Option, Some, None}
use Rattle.std.specs.List.{AllZip}
use Rattle.hq_values.specs.Refusals.{no_memory}
use Rattle.hq_values.specs.Turns.{InTurn}
use Rattle.hq_values.specs.declared.failure.Fault.{Fault}
use Rattle.hq_values.specs.declared.failure.Fault.TheVariants.{Closed}
use Rattle.hq_values.specs.declared.failure.Refusal.{Refusal}
use Rattle.hq_tables.specs.Sound.{Sound}
use Rattle.hq_tables.specs.Tables.{Tables}
use Rattle.hq_rules.specs.Desks.{DeskSight}
use Rattle.hq_rules.specs.Machine.{shared}
use Rattle.hq_rounds.specs.Rounds.{BeginsRound, EndsRound}
use Rattle.hq_requests.specs.Calls.{Asked, CallOf, CallOfAll}
use Rattle.hq_requests.specs.Directories.{entry_of}
use Rattle.hq_requests.specs.Spans.{Whom}
use Rattle.hq_requests.specs.declared.directory.Directory.{Directory}
use Rattle.hq_wire.specs.Exchanges.{AllDone, Ask, CallsAll, Deed, EndsAt, Exchanged, IsRefused}
use Rattle.hq_wire.specs.Exchanges.{IsStruck, IsWant, MayReplyTo, StopsClosed, TellsClosed}
use Rattle.hq_wire.specs.Exchanges.{ArePartsOf, Tells, TellsOf, after_calls}
use Rattle.hq_wire.specs.Replies.{SeenReply, Stop, reply_of, reply_of_fault}
use Rattle.hq_wire.specs.Runs.{AllReplied, Served, deeds}
use Rattle.hq_wire.proofs.Alone.{all_done_on, done_once}
use Rattle.hq_wire.proofs.Serving.{served}
use Rattle.hq_across.specs.Answered.{as_asked}

pub differ : {A : Type 0} → true ≡ false → A
differ e = absurd (true≢false e)

-- ---- calls of a round, told or not

-- what was done is what the calls leave
pub all_after : (host : List ℕ) (d : Directory) (t t' : Tables) (done : List Deed) →
    AllDone host d t done t' → t' ≡ after_calls host d t (map as_asked done)
all_after host d t t' [] h = h
all_after host d t t' (deed ∷ done) h =
    all_after host d (shared host (entry_of d deed.customer) t deed.at deed.call).1 t' done h.1

pub whole : {A : Type 0} (xs : List A) → take (length xs) xs ≡ xs
whole [] = refl
whole (x ∷ xs) = ap (λ ys. x ∷ ys) (whole xs)

-- what was done by exchanges
pub all_done : (may : Fault → Type 0) (host : List ℕ) (d : Directory) (t t' : Tables)
    (asks : List Ask) (rs : List SeenReply) → AllReplied may host d t asks rs t' →
    AllDone host d t (deeds asks rs) t'
all_done may host d t t' [] [] h = h
all_done may host d t t' (a ∷ asks) (r ∷ rs) h =
    all_done_on host d t h.0 t' _ _ (done_once may host d t h.0 a.at a.called r h.1)
    (all_done may host d h.0 t' asks rs h.2)
all_done may host d t t' [] (r ∷ rs) h = absurd h
all_done may host d t t' (a ∷ asks) [] h = absurd h

-- ---- what is answered in a round that stands

-- Of the faults that may be answered inside, all but 93 may be answered outside, and 93 tells that
-- the round is closed.
module _ {I : Type 0} (inside : DeskSight I) (may : Fault → Type 0)
    (all : (fault : Fault) → inside.store.may_answer fault → (fault ≡ Closed) ⊎ may fault)
    (d : Directory) where
  abbrev few : Fault → Type 0
  few = inside.store.may_answer

  -- a fault, but not that of a closed store
  but_closed : (fault : Fault) → (fault ≡ Closed → ⊥) → few fault → may fault
  but_closed fault open_ it = ⊎_elim (λ (is : fault ≡ Closed). absurd (open_ is))
      (λ (may : may fault). may) (all fault it)

  other_than_closed : no_memory ≡ Closed → ⊥
  other_than_closed is = cc

  want_more : (r : SeenReply) → IsWant few r → IsWant may r
  want_more r want = (but_closed no_memory other_than_closed want.0, want.1)

  refused_more : (refusal : Refusal) (r : SeenReply) → IsRefused few refusal r →
      IsRefused may refusal r
  refused_more refusal r (inl told) = inl told
  refused_more refusal r (inr want) = inr (want_more r want)

  ends_more : (left : List (List ℕ)) (stopped : Option Stop) → (StopsClosed stopped → ⊥) →
      EndsAt few left stopped → EndsAt may left stopped
  ends_more left None open_ h = h
  ends_more left (Some stop) open_ h = (
    but_closed stop.fault (λ is. open_ (stop.customer, closed_at stop is)) h.0,
    h.1,
  ) where
    closed_at : (stop : Stop) → stop.fault ≡ Closed →
        Some stop ≡ Some (record { customer = stop.customer; fault = Closed })
    closed_at stop is i = Some (record { customer = stop.customer; fault = is i })

  reply_more : (host : List ℕ) (t t' : Tables) (at : ℕ) (called : Result Asked Refusal)
      (r : SeenReply) → (TellsClosed r → ⊥) → MayReplyTo few host d t at called r t' →
      MayReplyTo may host d t at called r t'
  reply_more host t t' at (Err e) r open_ h = (refused_more e r h.0, h.1)
  reply_more host t t' at (Ok (CallOf name call)) r open_ h = ⊎_elim
      (λ (did : (r ≡ reply_of (shared host (entry_of d name) t at call).0)
      × (t' ≡ (shared host (entry_of d name) t at call).1)). inl did)
      (λ (no : (fault : Fault) × few fault × IsStruck fault t r t').
      inr (
        no.0,
        but_closed no.0 (λ is. open_ (inl (no.2.0 ∙ ap reply_of_fault is))) no.1,
        no.2,
      )) h
  reply_more host t t' at (Ok (CallOfAll whom call)) r open_ h = ⊎_elim
      (λ (did : CallsAll few host d t at whom call r t'). inl (record {
        left = did.left;
        order = did.order;
        done = did.done;
        ends = ends_more did.left r.stopped (λ told. open_ (inr told)) did.ends;
        objects = did.objects;
        reply = did.reply;
      }))
      (λ (no : IsWant few r × (t' ≡ t)). inr (want_more r no.0, no.1)) h

  parts_more : (whom : Whom) (r : SeenReply) → (TellsClosed r → ⊥) → ArePartsOf few d whom r →
      ArePartsOf may d whom r
  parts_more whom r open_ parts = record {
    left = parts.left;
    order = parts.order;
    ends = ends_more parts.left r.stopped (λ told. open_ (inr told)) parts.ends;
    objects = parts.objects;
    reply = parts.reply;
  }

  tells_one : (called : Result Asked Refusal) (r : SeenReply) → (TellsClosed r → ⊥) →
      TellsOf few d called r → TellsOf may d called r
  tells_one (Err e) r open_ h = refused_more e r h
  tells_one (Ok (CallOf name call)) r open_ (inl told) = inl told
  tells_one (Ok (CallOf name call)) r open_ (inr struck) =
      inr (
        struck.0,
        but_closed struck.0 (λ is. open_ (inl (struck.2 ∙ ap reply_of_fault is)))
            struck.1,
        struck.2,
      )
  tells_one (Ok (CallOfAll whom call)) r open_ (inl parts) = inl (parts_more whom r open_ parts)
  tells_one (Ok (CallOfAll whom call)) r open_ (inr want) = inr (want_more r want)

  -- what each reply tells, as long as the round is open
  pub tells_more : (old new : I) (asks : List Ask) (rs : List SeenReply) →
      InTurn (Exchanged inside d) old asks rs new → inside.store.is_closed new ≡ false →
      AllZip (Tells may d) asks rs
  tells_more old new [] [] h open_ = tt
  tells_more old new [] (r ∷ rs) h open_ = absurd h
  tells_more old new (a ∷ asks) [] h open_ = absurd h
  tells_more old new (a ∷ asks) (r ∷ rs) h open_ =
      let opened = (served inside d h.0 new asks rs h.2).stays.stays_open open_ in (
        tells_one a.called r (λ told. differ (sym (h.1.closed told) ∙ opened)) h.1.tells,
        tells_more h.0 new asks rs h.2 open_,
      )

  -- what is replied, as long as the round is open
  pub replied_open : (old new : I) (asks : List Ask) (rs : List SeenReply) →
      InTurn (Exchanged inside d) old asks rs new → inside.store.is_clean new →
      inside.store.is_ours old → inside.store.is_closed new ≡ false →
      Sound (inside.store.tables old) →
      AllReplied may (inside.host old) d (inside.store.tables old) asks rs
      (inside.store.tables new)
  replied_open old new [] [] h clean ours open_ sound = ap inside.store.tables h
  replied_open old new [] (r ∷ rs) h clean ours open_ sound = absurd h
  replied_open old new (a ∷ asks) [] h clean ours open_ sound = absurd h
  replied_open old new (a ∷ asks) (r ∷ rs) h clean ours open_ sound =
      let mid = h.0 in
      let one = h.1 in
      let rest = (served inside d mid new asks rs h.2).stays in
      let before = rest.quiet clean in
      let opened = rest.stays_open open_ in
      let later = replied_open mid new asks rs h.2 clean (one.stays.ours before ours opened) open_
      (one.sound before ours opened sound) in (
        inside.store.tables mid,
        reply_more (inside.host old) (inside.store.tables old) (inside.store.tables mid) a.at
            a.called r (λ told. differ (sym (one.closed told) ∙ opened))
            (one.replied before ours opened sound),
        subst (λ host. AllReplied may host d (inside.store.tables mid) asks rs
            (inside.store.tables new)) one.stays.host later,
      )

-- ---- between a beginning and an end

module _ {D I : Type 0} (sight : DeskSight D) (inside : DeskSight I) (d : Directory)
    (same_faults : (fault : Fault) → inside.store.may_answer fault
    → (fault ≡ Closed) ⊎ sight.store.may_answer fault) where
  abbrev tables : D → Tables
  tables = sight.store.tables

  -- What was done in a round, which then ended.
  pub record Ran (old : D) (asks : List Ask) (rs : List SeenReply) (stands : Bool)
      (new : D) : Type 0 where
    pub first : I
    pub last : I
    pub begins : BeginsRound sight.store inside.store old first
    pub first_host : inside.host first ≡ sight.host old
    pub each : Served inside d first asks rs last
    pub settles : EndsRound inside.store sight.store last (sight.store.fault_count old) stands new
    pub host : sight.host new ≡ inside.host last

  module _ (old new : D) (asks : List Ask) (rs : List SeenReply) (stands : Bool)
      (it : Ran old asks rs stands new) where
    abbrev t : Tables
    t = tables old

    pub first_clean : sight.store.is_clean new → inside.store.is_clean it.first
    first_clean clean = it.each.stays.quiet (it.settles.quiet clean)

    pub first_ours : sight.store.is_clean new → sight.store.is_ours old →
        inside.store.is_ours it.first
    first_ours clean ours = it.begins.ours (first_clean clean) ours

    pub first_tables : sight.store.is_clean new → sight.store.is_ours old →
        inside.store.tables it.first ≡ t
    first_tables clean ours = it.begins.tables (first_clean clean) ours

    pub last_ours : sight.store.is_clean new → sight.store.is_ours old →
        inside.store.is_closed it.last ≡ false → inside.store.is_ours it.last
    last_ours clean ours open_ = it.each.stays.ours (it.settles.quiet clean)
        (first_ours clean ours) open_

    -- it goes back to what there was, wherever it is
    pub can_go_back : sight.store.is_clean new → sight.store.is_ours old →
        inside.store.goes_back it.last t
    can_go_back clean ours = it.each.stays.round (it.settles.quiet clean)
        (inl (first_ours clean ours)) t (it.begins.back (first_clean clean) ours)

    -- what was replied in it
    pub replied : sight.store.is_clean new → sight.store.is_ours old →
        inside.store.is_closed it.last ≡ false → Sound t →
        AllReplied sight.store.may_answer (sight.host old) d t asks rs (inside.store.tables it.last)
    replied clean ours open_ sound =
        let from = first_tables clean ours in
        subst (λ h. AllReplied sight.store.may_answer h d t asks rs (inside.store.tables it.last))
        it.first_host
        (subst (λ u. AllReplied sight.store.may_answer (inside.host it.first) d u asks rs
        (inside.store.tables it.last)) from
        (replied_open inside sight.store.may_answer same_faults d it.first it.last asks rs
        it.each.each (it.settles.quiet clean) (first_ours clean ours) open_
        (subst Sound (sym from) sound)))
