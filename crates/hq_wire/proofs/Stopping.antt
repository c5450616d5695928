-- Where a call of all customers stops.
use Rattle.std.proofs.Common.{◌≡◌, inl, inr, ⊎_elim, ℕ, ◌+◌, ◌-◌, ◌^◌, ◌<◌, Bool, true, false, cond}
use Rattle.std.proofs.Common.{not, Option, List, ◌∷◌, ◌++◌, map, Some, Ok, Err, refl, sym, ap}
use Rattle.std.proofs.Common.{◌∙◌, subst, arith}
use Rattle.hq_values.specs.Refusals.{no_memory}
use Rattle.hq_values.specs.declared.failure.Fault.{Fault}
use Rattle.hq_values.specs.declared.failure.Fault.TheVariants.{WantOfMemory, Disk, BadSchema}
use Rattle.hq_values.specs.declared.failure.Fault.TheVariants.{Closed}
use Rattle.hq_kept.specs.declared.account.Entry.{Entry}
use Rattle.hq_tables.specs.Readings.{read_tables}
use Rattle.hq_tables.specs.Shelves.{IsTallied, KeepsOnErr, OnSound, OnOpenSound}
use Rattle.hq_tables.specs.Shelves.{StopLeavesWhole}
use Rattle.hq_tables.specs.Sound.{Sound}
use Rattle.hq_tables.specs.Tables.{Tables, write_all}
use Rattle.hq_tables.specs.declared.change.Change.{Change}
use Rattle.hq_rules.specs.Machine.{shared}
use Rattle.hq_rules.specs.Unchanged.{only_reads}
use Rattle.hq_rules.specs.declared.call.Call.{Call}
use Rattle.hq_rules.specs.Desks.{DeskSight, Stays, stepped}
use Rattle.hq_rules.specs.declared.render.Rendered.{Rendered}
use Rattle.hq_rules.proofs.Unchanged.{reading_has_none}
use Rattle.hq_requests.specs.Calls.{CallOfAll}
use Rattle.hq_requests.specs.Directories.{entry_of}
use Rattle.hq_requests.specs.Spans.{Whom, names_in}
use Rattle.hq_wire.specs.Exchanges.{AllDone, Exchanged, StopsClosed, TellsClosed, after_calls}
use Rattle.hq_wire.specs.Exchanges.{next_left, of_part}
use Rattle.hq_wire.specs.Replies.{Part, is_memory, parted_reply}
use Rattle.hq_requests.specs.declared.directory.Directory.{Directory}
use Rattle.hq_wire.proofs.Called.{SoFar, called_next, closed_told_none, customer_of_part, next_is}
use Rattle.hq_wire.proofs.Called.{reached, still_open}
use Rattle.hq_wire.proofs.Exchanging.{apart, counts, stay_on, stop_closes, tells_none}

-- ---- faults, as they are counted

was_open : (fault : Fault) (was is : Bool) (m n : ℕ) →
    IsTallied {X = Rendered} was is m n (Err fault) → is ≡ false → was ≡ false
was_open WantOfMemory was is m n h open_ = h.0
was_open Disk was is m n h open_ = h.0
was_open BadSchema was is m n h open_ = absurd h
was_open Closed was is m n h open_ = apart (sym open_ ∙ h.0)

tells_closed : (fault : Fault) (was is : Bool) (m n : ℕ) (name : List ℕ) →
    IsTallied {X = Rendered} was is m n (Err fault) → is ≡ true →
    StopsClosed (Some (record { customer = name; fault = fault }))
tells_closed WantOfMemory was is m n name h closed = apart (sym h.1 ∙ closed)
tells_closed Disk was is m n name h closed = apart (sym h.1 ∙ closed)
tells_closed BadSchema was is m n name h closed = absurd h
tells_closed Closed was is m n name h closed = (name, refl)

-- a call that only reads leaves the tables
reading_leaves : (host : List ℕ) (entry : Entry) (t : Tables) (at : ℕ) (call : Call) →
    only_reads call ≡ true → (shared host entry t at call).1 ≡ t
reading_leaves host entry t at call reads = ap (λ (cs : List Change). write_all entry.name cs t)
    (reading_has_none host entry (read_tables entry.name t) at call reads)

module _ {D : Type 0} (sight : DeskSight D) (d : Directory) (at : ℕ) (whom : Whom) (call : Call)
  where
    abbrev tables : D → Tables
    tables = sight.store.tables

    -- What the call of one customer came to, at whom it stops by this fault.
    record Struck (mid new : D) (entry : Entry) (made_call : Call) (fault : Fault) : Type 0 where
      pub cause : sight.store.may_answer fault
      pub keeps : Stays sight mid new
      pub none : OnOpenSound sight.store mid new (tables new ≡ tables mid)
      pub sound : OnOpenSound sight.store mid new (Sound (tables new))
      pub stops : OnSound sight.store mid new (StopLeavesWhole sight.store mid new
          (stepped sight mid entry at made_call).1)
      pub told : sight.store.is_closed new ≡ true → StopsClosed (Some
          (record { customer = entry.name; fault = fault }))
      pub closed : (parts : List Part) (next : Option (Option (List ℕ))) →
          TellsClosed (parted_reply parts next (Some
          (record { customer = entry.name; fault = fault }))) → sight.store.is_closed new ≡ true
      pub counted : sight.store.fault_count new < 2 ^ 64 - 1 → cond (not (is_memory fault)) 1 0
          + sight.store.fault_count mid ≡ sight.store.fault_count new

    struck_at : (old mid new : D) (names : List (List ℕ)) (body : List ℕ) (is_first : Bool)
        (entry : Entry) (made_call : Call) (more : List (List ℕ)) (fault : Fault)
        (so_far : SoFar sight d at call old names mid body is_first)
        → names_in d whom ≡ names ++ entry.name ∷ more
        → entry ≡ entry_of d entry.name
        → made_call ≡ call
        → Struck mid new entry made_call fault
        → Exchanged sight d old (record { at = at; called = Ok (CallOfAll whom call) })
        (parted_reply so_far.parts (next_left d whom (entry.name ∷ more))
        (Some (record { customer = entry.name; fault = fault }))) new
    struck_at old mid new names body is_first entry made_call more fault so_far all known same
        this =
        let name = entry.name in
        let opens = this.keeps.stays_open in
        let order : names_in d whom ≡ map customer_of_part so_far.parts ++ name ∷ more =
        all ∙ ap (λ ns. ns ++ name ∷ more) (sym so_far.whose) in
        let next : (stepped sight mid entry at made_call).1 ≡ after_calls (sight.host old) d
        (tables mid) (called_next sight d at call so_far.parts (names_in d whom)) =
        (λ i. (shared (so_far.stays.host i) (known i) (tables mid) at (same i)).1)
        ∙ ap (after_calls (sight.host old) d (tables mid))
        (sym (next_is sight d at call so_far.parts name more)
        ∙ ap (called_next sight d at call so_far.parts) (sym order)) in
        record {
          replied = λ clean ours open_ fit.
              let then = this.keeps.quiet clean in
              let rows = so_far.stays.ours then ours (opens open_) in
              let sound = so_far.sound then ours (opens open_) fit in
              inl (record {
                left = name ∷ more;
                order = order;
                done = subst (λ t. AllDone (sight.host old) d (tables old)
                    (map (of_part at call) so_far.parts) t) (sym (this.none clean rows open_ sound))
                    (so_far.done then ours (opens open_) fit);
                ends = (this.cause, (more, refl));
                objects = so_far.objects;
                reply = refl;
              });
          tells = inl (record {
            left = name ∷ more;
            order = order;
            ends = (this.cause, (more, refl));
            objects = so_far.objects;
            reply = refl;
          });
          anyway = λ closed. inl (this.told closed);
          closed = this.closed so_far.parts (next_left d whom (name ∷ more));
          sound = λ clean ours open_ fit.
              let then = this.keeps.quiet clean in
              this.sound clean (so_far.stays.ours then ours (opens open_)) open_ (so_far.sound then
              ours (opens open_) fit);
          stays = stay_on sight old mid new so_far.stays this.keeps;
          stops = λ clean ours fit rests.
              let so = reached sight d at call old mid names body is_first so_far
              (this.keeps.quiet clean) ours fit rests in
              let left = this.stops clean so.ours so.sound so.rests in (
                left.0,
                λ t may. (
                  tables mid,
                  so.done,
                  ⊎_elim (λ (is : t ≡ tables mid). inl is)
                      (λ (is : t ≡ (stepped sight mid entry at made_call).1). inr (is ∙ next))
                      (left.1 t may),
                ),
              );
          shut = closed_told_none sight d at call old mid names body is_first so_far;
          counted = λ small. subst (λ n. cond (not (is_memory fault)) 1 0 + n ≡
              sight.store.fault_count new) so_far.tally (this.counted small);
        }

    -- a fault stopped it at a customer
    pub stopped_at : (old mid new : D) (names : List (List ℕ)) (body : List ℕ) (is_first : Bool)
        (entry : Entry) (made_call : Call) (more : List (List ℕ)) (fault : Fault)
        (so_far : SoFar sight d at call old names mid body is_first)
        → names_in d whom ≡ names ++ entry.name ∷ more
        → entry ≡ entry_of d entry.name
        → made_call ≡ call
        → OnOpenSound sight.store mid new (Sound (tables new))
        → OnSound sight.store mid new (StopLeavesWhole sight.store mid new
        (stepped sight mid entry at made_call).1)
        → KeepsOnErr {X = Rendered} sight.store mid new (Err fault)
        → sight.host new ≡ sight.host mid
        → Exchanged sight d old (record { at = at; called = Ok (CallOfAll whom call) })
        (parted_reply so_far.parts (next_left d whom (entry.name ∷ more))
        (Some (record { customer = entry.name; fault = fault }))) new
    stopped_at old mid new names body is_first entry made_call more fault so_far all known same
        sound stops kept host =
        struck_at old mid new names body is_first entry made_call more fault so_far all known same
        (record {
          cause = kept.cause;
          keeps = record {
            ours = kept.ours;
            round = kept.round;
            quiet = kept.quiet;
            stays_open = was_open fault _ _ _ _ kept.tally;
            host = host;
            rests = kept.rests;
            shut = kept.shut;
          };
          none = λ clean ours open_ fit. kept.none clean ours open_;
          sound = sound;
          stops = stops;
          told = tells_closed fault _ _ _ _ entry.name kept.tally;
          closed = λ parts next. stop_closes fault _ _ _ _ parts next entry.name kept.tally;
          counted = counts fault _ _ _ _ kept.tally;
        })

    -- the call of a customer only read, and its part had no room
    pub stopped_unfit : (old mid new : D) (names : List (List ℕ)) (body : List ℕ) (is_first : Bool)
        (entry : Entry) (made_call : Call) (more : List (List ℕ)) (rendered : Rendered)
        (so_far : SoFar sight d at call old names mid body is_first)
        → names_in d whom ≡ names ++ entry.name ∷ more
        → entry ≡ entry_of d entry.name
        → made_call ≡ call
        → only_reads made_call ≡ true
        → sight.store.may_answer no_memory
        → OnSound sight.store mid new (tables new ≡ (stepped sight mid entry at made_call).1)
        → OnOpenSound sight.store mid new (Sound (tables new))
        → OnSound sight.store mid new (StopLeavesWhole sight.store mid new
        (stepped sight mid entry at made_call).1)
        → KeepsOnErr sight.store mid new (Ok rendered)
        → sight.host new ≡ sight.host mid
        → Exchanged sight d old (record { at = at; called = Ok (CallOfAll whom call) })
        (parted_reply so_far.parts (next_left d whom (entry.name ∷ more))
        (Some (record { customer = entry.name; fault = no_memory }))) new
    stopped_unfit old mid new names body is_first entry made_call more rendered so_far all known
        same reads may made sound stops kept host =
        struck_at old mid new names body is_first entry made_call more no_memory so_far all known
        same (record {
          cause = may;
          keeps = still_open sight d at call mid new rendered kept host;
          none = λ clean ours open_ fit. made clean ours fit
              ∙ reading_leaves (sight.host mid) entry (tables mid) at made_call reads;
          sound = sound;
          stops = stops;
          told = λ closed. apart (sym kept.tally.1 ∙ closed);
          closed = λ parts next. tells_none _ refl;
          counted = λ small. let one = kept.tally.2 in omega (arith, one);
        })
