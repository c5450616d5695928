-- What one exchange does, by how it goes.
use Rattle.std.proofs.Common.{◌≡◌, ◌⊎◌, inl, inr, ⊎_elim, ℕ, ◌+◌, ◌-◌, ◌^◌, ◌<◌, Bool, true, false}
use Rattle.std.proofs.Common.{cond, not}
use Rattle.std.proofs.Common.{◌&&◌, ◌||◌, eqb, List, [], ◌∷◌, map, Option, None, Some, Result, Ok}
use Rattle.std.proofs.Common.{Err, refl, sym, take, drop, length}
use Rattle.std.proofs.Common.{ap, ◌∙◌, subst, arith}
use Rattle.std.specs.Prelude.{bytes_eq}
use Rattle.std.proofs.lemmas.Bool.{eq-eqb, false≢true}
use Rattle.hq_values.specs.Refusals.{no_memory}
use Rattle.hq_values.specs.declared.failure.Fault.{Fault}
use Rattle.hq_values.specs.declared.failure.Fault.TheVariants.{WantOfMemory, Disk, BadSchema}
use Rattle.hq_values.specs.declared.failure.Fault.TheVariants.{Closed}
use Rattle.hq_values.specs.declared.failure.Refusal.{Refusal}
use Rattle.hq_tables.specs.Shelves.{Sight, IsTallied, KeepsOnErr, StopLeaves, StopLeavesTables}
use Rattle.hq_tables.specs.Shelves.{one_more}
use Rattle.std.specs.Prelude.{IfErr}
use Rattle.hq_tables.specs.Tables.{Tables}
use Rattle.hq_kept.specs.declared.account.Entry.{Entry}
use Rattle.hq_rules.specs.Machine.{shared}
use Rattle.hq_rules.specs.declared.call.Call.{Call}
use Rattle.hq_requests.specs.Directories.{entry_of}
use Rattle.hq_rules.specs.Desks.{DeskSight, Stays, or_memory}
use Rattle.hq_rules.specs.declared.render.Rendered.{Rendered}
use Rattle.hq_requests.specs.Calls.{Asked, CallOf, CallOfAll}
use Rattle.hq_wire.specs.Exchanges.{Ask, MayReplyTo, IsRefused, IsWant, RepliesAnyway}
use Rattle.hq_wire.specs.Exchanges.{StopsClosed, with_refusals}
use Rattle.hq_wire.specs.Exchanges.{TellsClosed, TellsOf, Exchanged, AllDone, Deed, StopMayLeave}
use Rattle.hq_wire.specs.Exchanges.{Whole, after_calls, deeds_of, of_part, unheard_call}
use Rattle.hq_wire.specs.Replies.{Part, SeenReply, Stop, fault_text, is_memory, reply_of_fault}
use Rattle.hq_wire.specs.Replies.{parted_reply, stops_by_store, tells_store}
use Rattle.hq_requests.specs.declared.directory.Directory.{Directory}
use Rattle.hq_wire.proofs.Alone.{fault_status, no_parts}

pub apart : {A : Type 0} → false ≡ true → A
apart e = absurd (false≢true e)

-- no calls keep all
pub stay_put : {D : Type 0} (sight : DeskSight D) (desk : D) → Stays sight desk desk
stay_put sight desk = record {
  ours = λ clean ours open_. ours;
  round = λ clean either t back. back;
  quiet = λ clean. clean;
  stays_open = λ open_. open_;
  host = refl;
  rests = λ clean ours open_ rests. rests;
  shut = λ clean closed. (λ desk. desk, λ t may. may);
}

-- what was closed is closed
pub stays_closed : {D : Type 0} (sight : DeskSight D) (old new : D) → Stays sight old new →
    sight.store.is_closed old ≡ true → sight.store.is_closed new ≡ true
stays_closed sight old new kept closed = elim (sight.store.is_closed new) as
    (λ b. sight.store.is_closed new ≡ b → sight.store.is_closed new ≡ true) [
      | true ↦ λ is. is
      | false ↦ λ is. apart (sym (kept.stays_open is) ∙ closed)
    ] refl

-- what two stretches of calls keep, they keep together
pub stay_on : {D : Type 0} (sight : DeskSight D) (old mid new : D) → Stays sight old mid →
    Stays sight mid new → Stays sight old new
stay_on sight old mid new first next = record {
  ours = λ clean ours open_. next.ours clean
      (first.ours (next.quiet clean) ours (next.stays_open open_)) open_;
  round = λ clean either t back.
      let before = next.quiet clean in
      let after = first.round before either t back in
      elim (sight.store.is_closed mid) as
      (λ b. sight.store.is_closed mid ≡ b → sight.store.goes_back new t) [
        | true ↦ λ closed. next.round clean (inr closed) t after
        | false ↦ λ opened. next.round clean (⊎_elim
            (λ (ours : sight.store.is_ours old). inl (first.ours before ours opened))
            (λ (closed : sight.store.is_closed old ≡ true).
            apart (sym (first.stays_open opened) ∙ closed)) either) t after
      ] refl;
  quiet = λ clean. first.quiet (next.quiet clean);
  stays_open = λ open_. first.stays_open (next.stays_open open_);
  host = next.host ∙ first.host;
  rests = λ clean ours open_ rests.
      let before = next.quiet clean in
      let opened = next.stays_open open_ in
      next.rests clean (first.ours before ours opened) open_
      (first.rests before ours opened rests);
  shut = λ clean closed.
      let one = first.shut (next.quiet clean) closed in
      let two = next.shut clean (stays_closed sight old mid first closed) in
      (λ desk. two.0 (one.0 desk), λ t may. one.1 t (two.1 t may));
}

-- ---- what is told of nothing

-- a fault that is told whole tells of nothing that was done
pub no_deeds : (fault : Fault) (at : ℕ) (called : Result Asked Refusal) (r : SeenReply) →
    r ≡ reply_of_fault fault → deeds_of at called r ≡ []
no_deeds fault at (Err e) r h = refl
no_deeds fault at (Ok (CallOf name call)) r h =
    let deed : Deed = record {
      customer = name;
      at = at;
      call = call;
      in_part = false;
      told = Whole r;
    } in
    ap (λ (b : Bool). cond b [] (deed ∷ []))
    (eq-eqb r.status 503 (ap (λ (x : SeenReply). x.status) h ∙ fault_status fault))
no_deeds fault at (Ok (CallOfAll whom call)) r h =
    ap (map (of_part at call)) (ap (λ (x : SeenReply). x.parts) h ∙ no_parts fault)

-- so a stop leaves the tables that there were
pub leaves_as_before : {D : Type 0} (sight : Sight D) (host : List ℕ) (d : Directory)
    (desk : D) (a : Ask) (r : SeenReply) → deeds_of a.at a.called r ≡ [] →
    StopLeavesTables sight desk →
    StopLeaves sight desk (StopMayLeave host d (sight.tables desk) a.at a.called r)
leaves_as_before sight host d desk a r none rests = (
  rests.0,
  λ t may. (
    sight.tables desk,
    subst (λ (done : List Deed). AllDone host d (sight.tables desk) done (sight.tables desk))
        (sym none) refl,
    inl (rests.1 t may),
  ),
)

-- where a call of one customer tells of nothing, a stop leaves the tables before or behind it
pub leaves_one : {D : Type 0} (sight : Sight D) (host : List ℕ) (d : Directory)
    (old new : D) (entry : Entry) (at : ℕ) (call : Call) (r : SeenReply)
    → deeds_of at (Ok (CallOf entry.name call)) r ≡ []
    → entry ≡ entry_of d entry.name
    → StopLeaves sight new (λ t. (t ≡ sight.tables old)
    ⊎ (t ≡ (shared host entry (sight.tables old) at call).1))
    → StopLeaves sight new (StopMayLeave host d (sight.tables old) at
    (Ok (CallOf entry.name call)) r)
leaves_one sight host d old new entry at call r none known left =
    let before = sight.tables old in
    let asked = unheard_call at call entry.name ∷ [] in
    let next : after_calls host d before (take 1 (drop (length
    (deeds_of at (Ok (CallOf entry.name call)) r)) asked))
    ≡ (shared host (entry_of d entry.name) before at call).1 =
    ap (λ (done : List Deed). after_calls host d before (take 1 (drop (length done) asked))) none
    in (
      left.0,
      λ t may. (
        before,
        subst (λ (done : List Deed). AllDone host d before done before) (sym none) refl,
        ⊎_elim (λ (is : t ≡ before). inl is)
            (λ (is : t ≡ (shared host entry before at call).1). inr (is
            ∙ ap (λ e. (shared host e before at call).1) known ∙ sym next)) (left.1 t may),
      ),
    )

-- want of memory may be told of anything that was asked, where it may be answered
pub without_room : (may : Fault → Type 0) (host : List ℕ) (d : Directory) (t : Tables) (at : ℕ)
    (called : Result Asked Refusal) (r : SeenReply) → IsWant may r →
    MayReplyTo may host d t at called r t
without_room may host d t at (Err e) r want = (inr want, refl)
without_room may host d t at (Ok (CallOf name call)) r want =
    inr (no_memory, want.0, (want.1, refl))
without_room may host d t at (Ok (CallOfAll whom call)) r want = inr (want, refl)

room_anyway : {D : Type 0} (sight : Sight D) (d : Directory) (desk : D)
    (called : Result Asked Refusal) (r : SeenReply) → IsWant sight.may_answer r →
    RepliesAnyway sight d desk called r desk
room_anyway sight d desk (Err e) r want = (inr want, refl)
room_anyway sight d desk (Ok (CallOf name call)) r want = λ closed. inr (want, refl)
room_anyway sight d desk (Ok (CallOfAll whom call)) r want = λ closed. inr (inl want, refl)

room_tells : (may : Fault → Type 0) (d : Directory) (called : Result Asked Refusal)
    (r : SeenReply) → IsWant may r → TellsOf may d called r
room_tells may d (Err e) r want = inr want
room_tells may d (Ok (CallOf name call)) r want = inr (no_memory, want.0, want.1)
room_tells may d (Ok (CallOfAll whom call)) r want = inr want

none_more : (b : Bool) (n : ℕ) → b ≡ false → cond b 1 0 + n ≡ n
none_more b n h = subst (λ (x : Bool). cond x 1 0 + n ≡ n) (sym h) (omega arith)

memory_is_none : tells_store (reply_of_fault no_memory) ≡ false
unfolding reply_of_fault
memory_is_none = refl

-- ---- 93 is told

either_way : (b : Bool) → (b || true) ≡ true
either_way true = refl
either_way false = refl

closed_is_counted : tells_store (reply_of_fault Closed) ≡ true
unfolding reply_of_fault
closed_is_counted = refl

-- it is one of the faults that the store counts
counted_closed : (r : SeenReply) → TellsClosed r → tells_store r ≡ true
counted_closed r told = ⊎_elim
    (λ (whole : r ≡ reply_of_fault Closed). ap tells_store whole ∙ closed_is_counted)
    (λ (stops : StopsClosed r.stopped). ap (λ (stopped : Option Stop). (eqb r.status 503
    && not (bytes_eq r.body (fault_text WantOfMemory))) || stops_by_store stopped) stops.1
    ∙ either_way (eqb r.status 503 && not (bytes_eq r.body (fault_text WantOfMemory)))) told

-- a reply that tells none of these does not tell it
pub tells_none : {A : Type 0} (r : SeenReply) → tells_store r ≡ false → TellsClosed r → A
tells_none r none told = apart (sym none ∙ counted_closed r told)

disk_is_another : {A : Type 0} → reply_of_fault Disk ≡ reply_of_fault Closed → A
unfolding reply_of_fault
disk_is_another e = apart (ap (λ (x : SeenReply). bytes_eq x.body (fault_text Closed)) e)

no_stop : {A : Type 0} (fault : Fault) → StopsClosed (reply_of_fault fault).stopped → A
unfolding reply_of_fault
no_stop fault stops = apart (ap stops_by_store stops.1)

-- a fault that is told whole as 93 closed the store
pub fault_closes : (fault : Fault) (was is : Bool) (m n : ℕ) (r : SeenReply) →
    IsTallied {X = Rendered} was is m n (Err fault) → r ≡ reply_of_fault fault → TellsClosed r →
    is ≡ true
fault_closes WantOfMemory was is m n r h same told =
    tells_none r (ap tells_store same ∙ memory_is_none) told
fault_closes Disk was is m n r h same told = ⊎_elim
    (λ (whole : r ≡ reply_of_fault Closed). disk_is_another (sym same ∙ whole))
    (λ (stops : StopsClosed r.stopped). no_stop Disk
    (subst (λ (x : SeenReply). StopsClosed x.stopped) same stops)) told
fault_closes BadSchema was is m n r h same told = absurd h
fault_closes Closed was is m n r h same told = h.0

-- where the store is closed behind it, it was told
pub fault_told : {X : Type 0} (fault : Fault) (was is : Bool) (m n : ℕ) (r : SeenReply) →
    IsTallied {X = Rendered} was is m n (Err fault) → r ≡ reply_of_fault fault → is ≡ true →
    (r ≡ reply_of_fault Closed) ⊎ X
fault_told WantOfMemory was is m n r h same closed = apart (sym h.1 ∙ closed)
fault_told Disk was is m n r h same closed = apart (sym h.1 ∙ closed)
fault_told BadSchema was is m n r h same closed = absurd h
fault_told Closed was is m n r h same closed = inl same

is_counted : (fault : Fault) → tells_store (reply_of_fault fault) ≡ not (is_memory fault)
unfolding reply_of_fault
is_counted WantOfMemory = refl
is_counted Disk = refl
is_counted BadSchema = refl
is_counted Closed = refl

one_more_is : (m n : ℕ) → n ≡ one_more m → n < 2 ^ 64 - 1 → 1 + m ≡ n
one_more_is m n h small = grind arith

pub counts : (fault : Fault) (was is : Bool) (m n : ℕ) →
    IsTallied {X = Rendered} was is m n (Err fault) → n < 2 ^ 64 - 1 →
    cond (not (is_memory fault)) 1 0 + m ≡ n
counts WantOfMemory was is m n h small = let same = h.2 in omega (arith, same)
counts Disk was is m n h small = one_more_is m n h.2 small
counts BadSchema was is m n h small = absurd h
counts Closed was is m n h small = one_more_is m n h.1 small

-- as it is told whole
pub counts_told : (fault : Fault) (was is : Bool) (m n : ℕ) (r : SeenReply) →
    IsTallied {X = Rendered} was is m n (Err fault) → r ≡ reply_of_fault fault →
    n < 2 ^ 64 - 1 → cond (tells_store r) 1 0 + m ≡ n
counts_told fault was is m n r h same small =
    subst (λ (b : Bool). cond b 1 0 + m ≡ n) (sym (ap tells_store same ∙ is_counted fault))
    (counts fault was is m n h small)

is_closed : Fault → Bool
is_closed Closed = true
is_closed _ = false

stops_closed : Option Stop → Bool
stops_closed None = false
stops_closed (Some stop) = is_closed stop.fault

not_whole : {A : Type 0} (parts : List Part) (next : Option (Option (List ℕ)))
    (stopped : Option Stop) → parted_reply parts next stopped ≡ reply_of_fault Closed → A
unfolding reply_of_fault
not_whole parts next stopped e = apart (ap (λ (x : SeenReply). eqb x.status 503) e)

by_another : {A : Type 0} (fault : Fault) (parts : List Part)
    (next : Option (Option (List ℕ))) (name : List ℕ) →
    is_closed fault ≡ false → TellsClosed (parted_reply parts next
    (Some (record { customer = name; fault = fault }))) → A
unfolding is_closed stops_closed
by_another fault parts next name another told = ⊎_elim
    (λ (whole : parted_reply parts next (Some (record { customer = name; fault = fault })) ≡
    reply_of_fault Closed). not_whole parts next _ whole)
    (λ (stops : StopsClosed (Some (record { customer = name; fault = fault }))). apart (sym another
    ∙ ap stops_closed stops.1)) told

-- and so of a fault that stopped a call of all
pub stop_closes : (fault : Fault) (was is : Bool) (m n : ℕ) (parts : List Part)
    (next : Option (Option (List ℕ))) (name : List ℕ) →
    IsTallied {X = Rendered} was is m n (Err fault) →
    TellsClosed (parted_reply parts next (Some (record { customer = name; fault = fault }))) →
    is ≡ true
unfolding is_closed
stop_closes WantOfMemory was is m n parts next name h told =
    by_another WantOfMemory parts next name refl told
stop_closes Disk was is m n parts next name h told = by_another Disk parts next name refl told
stop_closes BadSchema was is m n parts next name h told = absurd h
stop_closes Closed was is m n parts next name h told = h.0

module _ {D : Type 0} (sight : DeskSight D) (d : Directory) (desk : D) where
  -- there was no room for it, and nothing was done
  pub no_room : (a : Ask) (r : SeenReply) → IsWant sight.store.may_answer r →
      Exchanged sight d desk a r desk
  no_room a r want = record {
    replied = λ clean ours open_ sound.
        without_room sight.store.may_answer _ d _ a.at a.called r want;
    tells = room_tells sight.store.may_answer d a.called r want;
    anyway = room_anyway sight.store d desk a.called r want;
    closed = tells_none r (ap tells_store want.1 ∙ memory_is_none);
    sound = λ clean ours open_ sound. sound;
    stays = stay_put sight desk;
    stops = λ clean ours sound. leaves_as_before sight.store (sight.host desk) d desk a r
        (no_deeds no_memory a.at a.called r want.1);
    shut = λ closed. no_deeds no_memory a.at a.called r want.1;
    counted = λ small. none_more (tells_store r) _ (ap tells_store want.1 ∙ memory_is_none);
  }

  -- it was refused, and nothing was done
  pub refused : (at : ℕ) (e : Refusal) (r : SeenReply) → IsRefused sight.store.may_answer e r →
      tells_store r ≡ false → Exchanged sight d desk (record { at = at; called = Err e }) r desk
  refused at e r h none = record {
    replied = λ clean ours open_ sound. (h, refl);
    tells = h;
    anyway = (h, refl);
    closed = tells_none r none;
    sound = λ clean ours open_ sound. sound;
    stays = stay_put sight desk;
    stops = λ clean ours sound. leaves_as_before sight.store (sight.host desk) d desk
        (record { at = at; called = Err e }) r refl;
    shut = λ closed. refl;
    counted = λ small. none_more (tells_store r) _ none;
  }

-- ---- refusals of memory

-- a fault that this memory caused may be answered, by those who ask it
module _ {D : Type 0} (refused : Type 0) (sight : DeskSight D) where
  pub wanted : (r : SeenReply) → refused → r ≡ reply_of_fault no_memory →
      IsWant (with_refusals refused sight).store.may_answer r
  wanted r why h = (inl (refl, why), h)

  pub refused_so : (e : Refusal) (r : SeenReply) →
      IsRefused (λ fault. (fault ≡ no_memory) × refused) e r →
      IsRefused (with_refusals refused sight).store.may_answer e r
  refused_so e r (inl told) = inl told
  refused_so e r (inr want) = inr (inl want.0, want.1)

  -- what is kept where each answer was rendered, or memory refused room for it
  pub rendered_all : {X : Type 0} (all : Type 0) (old new : D) (result : Result X Fault) → all →
      KeepsOnErr (or_memory (all → refused) sight.store) old new result →
      KeepsOnErr (with_refusals refused sight).store old new result
  rendered_all all old new result takes kept = record {
    none = kept.none;
    ours = kept.ours;
    round = kept.round;
    quiet = kept.quiet;
    tally = kept.tally;
    cause = cause result kept.cause;
    rests = kept.rests;
    shut = kept.shut;
  } where
    cause : {X : Type 0} (result : Result X Fault) →
        IfErr result (or_memory (all → refused) sight.store).may_answer →
        IfErr result (with_refusals refused sight).store.may_answer
    cause (Ok x) may = tt
    cause (Err fault) (inl want) = inl (want.0, want.1 takes)
    cause (Err fault) (inr may) = inr may
