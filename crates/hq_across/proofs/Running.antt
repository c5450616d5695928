-- Exchanges of a desk up to a stop are a session.
use Rattle.std.proofs.Common.{◌≡◌, ◌⊎◌, inl, inr, ⊎_elim, ℕ, true, false, length}
use Rattle.std.proofs.Common.{List, [], ◌∷◌, ◌++◌, take, drop, Result, Ok, Err}
use Rattle.std.proofs.Common.{sym, refl, ap, ◌∙◌, subst}
use Rattle.hq_values.specs.Refusals.{no_memory}
use Rattle.hq_values.specs.Turns.{InTurn}
use Rattle.hq_values.specs.declared.failure.Fault.TheVariants.{Closed}
use Rattle.hq_values.specs.declared.failure.Refusal.{Refusal}
use Rattle.hq_tables.specs.Shelves.{Sight, StopLeaves, StopLeavesNoMore}
use Rattle.hq_tables.specs.Sound.{Sound}
use Rattle.hq_tables.specs.Tables.{Tables}
use Rattle.hq_rules.specs.Desks.{DeskSight}
use Rattle.hq_rules.specs.Machine.{shared}
use Rattle.hq_soundness.proofs.Soundness.{shared_sound}
use Rattle.hq_requests.specs.Calls.{Asked, CallOf, CallOfAll}
use Rattle.hq_requests.specs.Directories.{entry_of}
use Rattle.hq_requests.specs.Spans.{names_in}
use Rattle.hq_requests.specs.declared.directory.Directory.{Directory}
use Rattle.hq_wire.specs.Exchanges.{IsWant}
use Rattle.hq_wire.specs.Exchanges.{AllDone, Ask, Deed, Exchanged, RepliesAnyway, StopMayLeave}
use Rattle.hq_wire.specs.Exchanges.{StopsClosed, TellsClosed, Unheard, after_calls, calls_asked}
use Rattle.hq_wire.specs.Exchanges.{deeds_of, next_call}
use Rattle.hq_wire.specs.Replies.{SeenReply, reply_of_fault}
use Rattle.hq_wire.specs.Runs.{deeds}
use Rattle.hq_wire.proofs.Alone.{all_done_on, done_once, seen}
use Rattle.hq_wire.proofs.Serving.{served}
use Rattle.hq_across.specs.Histories.{MayFind, Passed, uncut}
use Rattle.hq_across.specs.Sessions.{IsJustOpened, IsSession, StoppedAt}

-- ---- the call under way

once : {A : Type 0} (xs : List A) → take 1 (take 1 xs) ≡ take 1 xs
once [] = refl
once (x ∷ xs) = refl

-- an exchange behind which the store is closed tells so, or the store was closed before it
told_closed : {D : Type 0} (sight : Sight D) (d : Directory) (old new : D) (at : ℕ)
    (called : Result Asked Refusal) (r : SeenReply) → sight.is_closed new ≡ true →
    RepliesAnyway sight d old called r new →
    TellsClosed r ⊎ (sight.is_closed old ≡ true)
told_closed sight d old new at (Err e) r closed h = inr (ap sight.is_closed (sym h.1) ∙ closed)
told_closed sight d old new at (Ok (CallOf name call)) r closed h = ⊎_elim
    (λ (is : r ≡ reply_of_fault Closed). inl (inl is))
    (λ (same : IsWant sight.may_answer r × (new ≡ old)).
    inr (ap sight.is_closed (sym same.1) ∙ closed)) (h closed)
told_closed sight d old new at (Ok (CallOfAll whom call)) r closed h = ⊎_elim
    (λ (is : StopsClosed r.stopped). inl (inr is))
    (λ (same : (IsWant sight.may_answer r ⊎ (names_in d whom ≡ [])) × (new ≡ old)).
    inr (ap sight.is_closed (sym same.1) ∙ closed)) (h closed)

-- what a stop in an exchange leaves is found where its next call was under way
found_next : (host : List ℕ) (d : Directory) (told t' : Tables) (at : ℕ)
    (called : Result Asked Refusal) (r : SeenReply) →
    (t' ≡ told) ⊎ (t' ≡ after_calls host d told (next_call d at called r)) →
    MayFind host d told (next_call d at called r) t'
found_next host d told t' at called r h = ⊎_elim (λ (none : t' ≡ told). (0, none))
    (λ (is : t' ≡ after_calls host d told (next_call d at called r)). (
      1,
      is
          ∙ ap (after_calls host d told) (sym (once (drop (length (deeds_of at called r))
          (calls_asked d at called)))),
    )) h

-- ---- what was done

nothing_more : (xs : List Deed) → xs ++ [] ≡ xs
nothing_more [] = refl
nothing_more (x ∷ xs) = ap (λ ys. x ∷ ys) (nothing_more xs)

pub done_sound : (host : List ℕ) (d : Directory) (t t' : Tables) (done : List Deed) →
    AllDone host d t done t' → Sound t → Sound t'
done_sound host d t t' [] h sound = subst Sound (sym h) sound
done_sound host d t t' (deed ∷ done) h sound =
    done_sound host d (shared host (entry_of d deed.customer) t deed.at deed.call).1 t' done h.1
    (shared_sound host (entry_of d deed.customer) t deed.at deed.call sound)

-- what was asked from the tables t, where the next opening finds the tables t'
pub record Ran (host : List ℕ) (d : Directory) (asks : List Ask) (rs : List SeenReply)
    (t t' : Tables) : Type 0 where
  pub under_way : List Unheard
  pub stopped_at : StoppedAt d asks rs under_way
  pub last : Tables
  pub done : AllDone host d t (deeds asks rs) last
  pub found : MayFind host d last under_way t'

session_of : (host : List ℕ) (d : Directory) (asks : List Ask) (rs : List SeenReply)
    (t t' : Tables) → Ran host d asks rs t t' → IsSession host d asks rs t t'
session_of host d asks rs t t' ran = record {
  under_way = ran.under_way;
  stopped_at = ran.stopped_at;
  passed = record {
    last = ran.last;
    alone = record {
      replies = λ c. (seen host d c t ran.last (deeds asks rs) ran.done).told;
      state = λ c. (seen host d c t ran.last (deeds asks rs) ran.done).state;
    };
    sound = done_sound host d t ran.last (deeds asks rs) ran.done;
    found = ran.found;
  };
}

-- the exchange in which the store was closed, and those behind it
closing : (host : List ℕ) (d : Directory) (a : Ask) (r : SeenReply) (asks : List Ask)
    (rs : List SeenReply) (t t' : Tables) →
    TellsClosed r → deeds asks rs ≡ [] →
    StopMayLeave host d t a.at a.called r t' →
    Ran host d (a ∷ asks) (r ∷ rs) t t'
closing host d a r asks rs t t' told nothing h = record {
  under_way = next_call d a.at a.called r;
  stopped_at = inl (record { told = told; next = refl; last = nothing });
  last = h.0;
  done = subst (λ more. AllDone host d t (deeds_of a.at a.called r ++ more) h.0) (sym nothing)
      (subst (λ ds. AllDone host d t ds h.0)
      (sym (nothing_more (deeds_of a.at a.called r))) h.1);
  found = found_next host d h.0 t' a.at a.called r h.2;
}

differ : {A : Type 0} → true ≡ false → A
differ e = absurd (not_so e) where
  not_so : true ≡ false → ⊥
  not_so e = cc

-- ---- exchanges in turn

module _ {D : Type 0} (sight : DeskSight D) (d : Directory) where
  abbrev tables : D → Tables
  tables = sight.store.tables

  still_closed : (old new : D) (a : Ask) (r : SeenReply) → Exchanged sight d old a r new →
      sight.store.is_closed old ≡ true → sight.store.is_closed new ≡ true
  still_closed old new a r one closed = elim (sight.store.is_closed new) as (λ b.
      sight.store.is_closed new ≡ b → sight.store.is_closed new ≡ true) [
        | true ↦ λ is. is
        | false ↦ λ is. differ (sym closed ∙ one.stays.stays_open is)
      ] refl

  -- a closed desk does nothing, and leaves no more than before
  pub record Rested (old : D) (asks : List Ask) (rs : List SeenReply) (new : D) : Type 0 where
    pub nothing : deeds asks rs ≡ []
    pub leaves : StopLeavesNoMore sight.store old new
    pub clean : sight.store.is_clean old

  pub rested : (old new : D) (asks : List Ask) (rs : List SeenReply) →
      InTurn (Exchanged sight d) old asks rs new → sight.store.is_closed old ≡ true →
      sight.store.is_clean new → Rested old asks rs new
  rested old new [] [] h closed clean = record {
    nothing = refl;
    leaves = subst (λ n. StopLeavesNoMore sight.store old n) (sym h)
        (λ desk. desk, λ t leaves. leaves);
    clean = subst sight.store.is_clean h clean;
  }
  rested old new [] (r ∷ rs) h closed clean = absurd h
  rested old new (a ∷ asks) [] h closed clean = absurd h
  rested old new (a ∷ asks) (r ∷ rs) h closed clean =
      let mid = h.0 in
      let one = h.1 in
      let rest = rested mid new asks rs h.2 (still_closed old mid a r one closed) clean in
      let none = one.shut closed in
      let first = one.stays.shut rest.clean closed in
      record {
        nothing = λ i. none i ++ rest.nothing i;
        leaves = (
          λ desk. rest.leaves.0 (first.0 desk),
          λ t leaves. first.1 t (rest.leaves.1 t leaves),
        );
        clean = one.stays.quiet rest.clean;
      }

  -- the store is open behind an exchange, and the rest is a session
  goes_on : (old mid : D) (a : Ask) (r : SeenReply) (asks : List Ask) (rs : List SeenReply)
      (t' : Tables) → Exchanged sight d old a r mid →
      AllDone (sight.host old) d (tables old) (deeds_of a.at a.called r) (tables mid) →
      (TellsClosed r → ⊥) → Ran (sight.host mid) d asks rs (tables mid) t' →
      Ran (sight.host old) d (a ∷ asks) (r ∷ rs) (tables old) t'
  goes_on old mid a r asks rs t' one did open_ later =
      let rest : Ran (sight.host old) d asks rs (tables mid) t' =
      subst (λ host. Ran host d asks rs (tables mid) t') one.stays.host later in
      record {
        under_way = rest.under_way;
        stopped_at = inr (inl (open_, rest.stopped_at));
        last = rest.last;
        done = all_done_on (sight.host old) d (tables old) (tables mid) rest.last
            (deeds_of a.at a.called r) (deeds asks rs) did rest.done;
        found = rest.found;
      }

  was_clean : (old new : D) (asks : List Ask) (rs : List SeenReply) →
      InTurn (Exchanged sight d) old asks rs new → sight.store.is_clean new →
      sight.store.is_clean old
  was_clean old new asks rs h clean = (served sight d old new asks rs h).stays.quiet clean

  -- nothing is under way where nothing was done
  pub idle : (asks : List Ask) (rs : List SeenReply) → deeds asks rs ≡ [] → StoppedAt d asks rs []
  idle [] rs none = refl
  idle (a ∷ asks) [] none = refl
  idle (a ∷ asks) (r ∷ rs) none = inr (inr (none, refl))

  -- nothing was done over a desk that was closed
  shut_ran : (old new : D) (asks : List Ask) (rs : List SeenReply) →
      InTurn (Exchanged sight d) old asks rs new → IsJustOpened sight old →
      sight.store.is_closed old ≡ true → sight.store.is_clean new →
      StopLeaves sight.store new (Ran (sight.host old) d asks rs (tables old))
  shut_ran old new asks rs h opened closed clean =
      let all = rested old new asks rs h closed clean in (
        all.leaves.0 opened.rests.0,
        λ t' leaves. record {
          under_way = [];
          stopped_at = idle asks rs all.nothing;
          last = tables old;
          done = subst (λ (done : List Deed). AllDone (sight.host old) d (tables old) done
              (tables old)) (sym all.nothing) refl;
          found = (0, opened.rests.1 t' (all.leaves.1 t' leaves));
        },
      )

  pub ran : (old new : D) (asks : List Ask) (rs : List SeenReply) →
      InTurn (Exchanged sight d) old asks rs new → IsJustOpened sight old →
      sight.store.is_clean new →
      StopLeaves sight.store new (Ran (sight.host old) d asks rs (tables old))
  ran old new [] [] h opened clean = subst
      (λ n. StopLeaves sight.store n (Ran (sight.host old) d [] [] (tables old))) (sym h) (
        opened.rests.0,
        λ t' leaves. record {
          under_way = [];
          stopped_at = refl;
          last = tables old;
          done = refl;
          found = (0, opened.rests.1 t' leaves);
        },
      )
  ran old new [] (r ∷ rs) h opened clean = absurd h
  ran old new (a ∷ asks) [] h opened clean = absurd h
  ran old new (a ∷ asks) (r ∷ rs) h opened clean = further h.0 h.1 h.2
      (λ now. ran h.0 new asks rs h.2 now clean) where
        further : (mid : D) → Exchanged sight d old a r mid →
            InTurn (Exchanged sight d) mid asks rs new →
            (IsJustOpened sight mid → StopLeaves sight.store new
            (Ran (sight.host mid) d asks rs (tables mid))) →
            StopLeaves sight.store new (Ran (sight.host old) d (a ∷ asks) (r ∷ rs) (tables old))
        further mid one later next = elim (sight.store.is_closed mid) as (λ b.
            sight.store.is_closed mid ≡ b →
            StopLeaves sight.store new (Ran (sight.host old) d (a ∷ asks) (r ∷ rs) (tables old))) [
              | true ↦ λ closed.
                  let rest = rested mid new asks rs later closed clean in
                  let left = one.stops rest.clean opened.ours opened.sound opened.rests in
                  ⊎_elim (λ (told : TellsClosed r). (
                    rest.leaves.0 left.0,
                    λ t' leaves. closing (sight.host old) d a r asks rs (tables old) t' told
                        rest.nothing (left.1 t' (rest.leaves.1 t' leaves)),
                  )) (λ (was : sight.store.is_closed old ≡ true).
                  shut_ran old new (a ∷ asks) (r ∷ rs) (mid, one, later) opened was clean)
                  (told_closed sight.store d old mid a.at a.called r closed one.anyway)
              | false ↦ λ stays.
                  let before = was_clean mid new asks rs later clean in
                  let may = sight.store.may_answer in
                  let did = done_once may (sight.host old) d (tables old) (tables mid) a.at
                  a.called r (one.replied before opened.ours stays opened.sound) in
                  let rest = next (record {
                    ours = one.stays.ours before opened.ours stays;
                    sound = one.sound before opened.ours stays opened.sound;
                    rests = one.stays.rests before opened.ours stays opened.rests;
                  }) in (
                    rest.0,
                    λ t' leaves. goes_on old mid a r asks rs t' one did
                        (λ told. differ (sym (one.closed told) ∙ stays)) (rest.1 t' leaves),
                  )
            ] refl

  pub is_session : (old new : D) (asks : List Ask) (rs : List SeenReply) →
      InTurn (Exchanged sight d) old asks rs new → IsJustOpened sight old →
      sight.store.is_clean new →
      StopLeaves sight.store new (IsSession (sight.host old) d asks rs (tables old))
  is_session old new asks rs h opened clean =
      let all = ran old new asks rs h opened clean in (
        all.0,
        λ t' leaves. session_of (sight.host old) d asks rs (tables old) t' (all.1 t' leaves),
      )

  -- where the desk is open, nothing is under way
  pub is_whole : (old new : D) (asks : List Ask) (rs : List SeenReply) →
      InTurn (Exchanged sight d) old asks rs new → IsJustOpened sight old →
      sight.store.is_clean new →
      sight.store.is_closed new ≡ false →
      StopLeaves sight.store new (Passed (sight.host old) (uncut d asks rs) (tables old))
  is_whole old new asks rs h opened clean open_ =
      let all = served sight d old new asks rs h in
      let left = all.stays.rests clean opened.ours open_ opened.rests in (
        left.0,
        λ t' leaves. record {
          last = tables new;
          alone = all.alone clean opened.ours open_ opened.sound;
          sound = λ sound. all.sound clean opened.ours open_ sound;
          found = (0, left.1 t' leaves);
        },
      )
