-- What undoing leaves, and what a statement that does nothing tells of the connection.
use Rattle.std.proofs.Common.{◌≡◌, ◌⊎◌, inl, inr, arith, ℕ, ◌≤◌, Bool, true, false, true≢false}
use Rattle.std.proofs.Common.{◌||◌, not, List, [], length, None, Result, Ok, Err, IsTrue, refl, sym}
use Rattle.std.proofs.Common.{ap, ◌∙◌, subst}
use Rattle.std.specs.Bool.{⊤}
use Rattle.std.proofs.lemmas.Bool.{cases_Bool}
use Rattle.sqlite_resolve.specs.declared.compiled.Compiled.{Compiled}
use Rattle.sqlite_resolve.specs.declared.error.CompileError.{CompileError}
use Rattle.sqlite_trees.specs.declared.error.StoreError.{StoreError}
use Rattle.sqlite_trees.specs.declared.error.StoreError.TheVariants.{OutOfMemory, Io, Corrupt, Full}
use Rattle.sqlite_trees.specs.declared.error.StoreError.TheVariants.{Broken, Unstorable}
use Rattle.sqlite.specs.Schema.{Schema}
use Rattle.sqlite.specs.Calls.{IsWrite}
use Rattle.sqlite.specs.Command.{Command}
use Rattle.sqlite.specs.Command.TheVariants.{Rollback, Nothing}
use Rattle.sqlite.specs.declared.error.Error.{Error}
use Rattle.sqlite.specs.Effect.{is_query}
use Rattle.sqlite.specs.Listing.{understood}
use Rattle.sqlite.specs.State.{State, HasCleanDisk, HasCause, Executes, ExecutesIn, Fails}
use Rattle.sqlite.specs.State.{IsMisplaced, IsNoStatement, IsNotRun, IsRolledBack, IsUnchanged}
use Rattle.sqlite.specs.State.{Survives, CommitsBy, is_pragma, shows_rows, store_error}
use Rattle.sqlite_tied.specs.Compute.{everything}
use Rattle.sqlite.proofs.Callers.{IsPlain, command_of, runs_as}
use Rattle.hq_sql_open.specs.Transactions.{IsUndone, Undoes, Probes, gone}
use Rattle.hq_sql_open.proofs.Transactions.{rollback_text, rollback_is, rollback_plain}
use Rattle.hq_sql_open.proofs.Transactions.{rollback_stops, no_text, no_is, no_plain, no_stops}

-- ---- what is refused before it is run

-- the text is one statement, which names no parameter
abbrev IsWhole : List ℕ → Result Compiled CompileError → Type 0
IsWhole sql (Ok c) = (length sql ≤ c.tail) × (c.names ≡ [])
IsWhole sql (Err e) = ⊥

rollback_whole : (schema : Schema) → IsWhole rollback_text (understood schema rollback_text)
unfolding understood everything
rollback_whole schema = (omega arith, refl)

no_whole : (schema : Schema) → IsWhole no_text (understood schema no_text)
unfolding understood everything
no_whole schema = (omega arith, refl)

-- such a statement is always run
never_refused : (s : State) (sql : List ℕ) (e : Error) → IsPlain (understood s.now.schema sql) →
    IsWhole sql (understood s.now.schema sql) → IsNoStatement s sql [] e → ⊥
never_refused s sql e plain whole (inl h) = subst IsPlain h.1 plain
never_refused s sql e plain whole (inr h) =
    let is = subst (IsWhole sql) h.1 whole in
    let bare = subst IsPlain h.1 plain in
    elim h.2 [
      | inl more ↦ more.0 is.0
      | inr other ↦ elim other [
        | inl names ↦ names.0 (ap length (sym is.1))
        | inr formats ↦ formats.0 bare.1
      ]
    ]

-- ---- how such a statement fails: it is misplaced, or the store failed

caused : (old new : State) (big : Type 0) (cause : StoreError) → HasCause old new big cause →
    HasCause old new ⊤ cause
caused old new big OutOfMemory h = h
caused old new big Io h = h
caused old new big Corrupt h = h
caused old new big Full h = h
caused old new big Broken h = h
caused old new big Unstorable h = tt

failed : (old new : State) (big : Type 0) (e : Error) → Fails old new big e → Fails old new ⊤ e
failed old new big e h = (h.0, h.1, caused old new big h.0 h.2, h.3, h.4)

neither : (a b : Bool) → (a || b) ≡ false → (a || (b || false)) ≡ true → ⊥
neither true b none some = true≢false none
neither false true none some = true≢false none
neither false false none some = true≢false (sym some)

shows_none : (c : Compiled) → c.returning ≡ None →
    (is_query c.command || is_pragma c.command) ≡ false → shows_rows false c ≡ true → ⊥
shows_none c none silent shows = neither (is_query c.command) (is_pragma c.command) silent
    (rw none at shows)

module _ (old new : State) (sql : List ℕ) (command : Command)
    (is : command_of (understood old.now.schema sql) ≡ command)
    (plain : IsPlain (understood old.now.schema sql))
    (whole : IsWhole sql (understood old.now.schema sql))
    (silent : (is_query command || is_pragma command) ≡ false) (never : IsWrite command → ⊥) where
  fails_as : (e : Error) → Executes sql [] old new (Err e) →
      (IsMisplaced old command e × IsUnchanged old new) ⊎ Fails old new ⊤ e
  unfolding ExecutesIn IsNotRun
  fails_as e (inl (inl h)) = absurd (never_refused old sql e plain whole h.0)
  fails_as e (inl (inr h)) = inr (failed old new _ e h)
  fails_as e (inr h) =
      let is_now : h.0.command ≡ command = ap command_of (sym h.1.is) ∙ is in
      let none = (subst IsPlain h.1.is plain).0 in
      elim (cases_Bool (shows_rows false h.0)) [
        | inl shows ↦ absurd (shows_none h.0 none (ap (λ k. is_query k || is_pragma k) is_now
            ∙ silent) shows)
        | inr runs ↦ elim (rw runs at h.2) [
          | inl refused ↦ elim refused.0 [
            | inl misplaced ↦ inl (subst (λ k. IsMisplaced old k e) is_now misplaced, refused.1)
            | inr changes ↦ elim changes.0 [
              | inl writes ↦ absurd (never (subst IsWrite is_now writes))
              | inr some ↦ absurd (let no = rw none at some in cc)
            ]
          ]
          | inr fails ↦ inr (failed old new _ e fails)
        ]
      ]

-- ---- what undoing leaves

rolled_undone : (old new : State) → IsRolledBack old new → IsUndone old new
rolled_undone old new h = record {
  kept = record { was_open = h.was_open; committed = λ is. (h.undone is).1 };
  mode = h.autocommit;
  now = λ is. (h.undone is).0 ∙ sym (h.undone is).1;
}

unchanged_undone : (old new : State) → old.in_transaction ≡ false →
    (IsTrue old.is_open → old.now ≡ old.committed) → IsUnchanged old new → IsUndone old new
unchanged_undone old new auto settled same = record {
  kept = record { was_open = λ _. same.0.was_open; committed = λ _. same.0.committed_is };
  mode = same.0.mode ∙ auto;
  now = λ _. same.0.now_is ∙ settled same.0.was_open ∙ sym same.0.committed_is;
}

-- a transaction is there, so that ROLLBACK is not misplaced
placed : (s : State) (e : Error) → s.in_transaction ≡ true → IsMisplaced s Rollback e → ⊥
placed s e within (inl (_, inl begins)) = absurd (let no = begins.0 in cc)
placed s e within (inl (_, inr outside)) = true≢false (sym within ∙ outside.1)
placed s e within (inr (_, name, inl releases, _)) = absurd (let no = releases in cc)
placed s e within (inr (_, name, inr back, _)) = absurd (let no = back in cc)

undone : (old new : State) (r : Result ℕ Error) → old.in_transaction ≡ true →
    Executes rollback_text [] old new r → IsUndone old new
undone old new (Ok count) within h =
    rolled_undone old new (runs_as rollback_text [] old new old.now.schema refl Rollback
    (rollback_is old.now.schema) (rollback_plain old.now.schema) count h).1
undone old new (Err e) within h =
    elim (fails_as old new rollback_text Rollback (rollback_is old.now.schema)
    (rollback_plain old.now.schema) (rollback_whole old.now.schema) refl (λ no. no) e h) [
      | inl misplaced ↦ absurd (placed old e within misplaced.0)
      | inr fails ↦ rolled_undone old new fails.3
    ]

-- a connection that commits not each statement by itself is in a transaction
pub within : (b : Bool) → not b ≡ false → b ≡ true
within true e = refl
within false e = absurd (true≢false e)

pub undoes : (old new : State) (r : Result ℕ Error) → old.in_transaction ≡ true →
    Survives old new (CommitsBy rollback_text [] old) →
    (HasCleanDisk new → Executes rollback_text [] old new r)
    → Undoes old new
undoes old new r within survives h = record {
  undone = λ clean. undone old new r within (h clean);
  quiet = survives.clean;
  stops = rollback_stops old new survives;
}

-- ---- what asking tells

-- nothing that is done is misplaced
unmisplaced : (s : State) (e : Error) → IsMisplaced s Nothing e → ⊥
unmisplaced s e (inl (_, inl begins)) = absurd (let no = begins.0 in cc)
unmisplaced s e (inl (_, inr (inl commits, _))) = absurd (let no = commits in cc)
unmisplaced s e (inl (_, inr (inr undoes, _))) = absurd (let no = undoes in cc)
unmisplaced s e (inr (_, name, inl releases, _)) = absurd (let no = releases in cc)
unmisplaced s e (inr (_, name, inr back, _)) = absurd (let no = back in cc)

asked : (old new : State) (count : ℕ) → Executes no_text [] old new (Ok count) → IsUnchanged old new
asked old new count h = (runs_as no_text [] old new old.now.schema refl Nothing
    (no_is old.now.schema) (no_plain old.now.schema) count h).0

unasked : (old new : State) (e : Error) → Executes no_text [] old new (Err e) → Fails old new ⊤ e
unasked old new e h = elim
    (fails_as old new no_text Nothing (no_is old.now.schema) (no_plain old.now.schema)
    (no_whole old.now.schema) refl (λ no. no) e h) [
      | inl misplaced ↦ absurd (unmisplaced old e misplaced.0)
      | inr fails ↦ fails
    ]

-- of all causes one alone is told as gone
broken : (old new : State) (cause : StoreError) → store_error cause ≡ gone →
    HasCause old new ⊤ cause → old.is_open ≡ false
broken old new OutOfMemory e h = absurd (let no = e in cc)
broken old new Io e h = absurd (let no = e in cc)
broken old new Corrupt e h = absurd (let no = e in cc)
broken old new Full e h = absurd (let no = e in cc)
broken old new Broken e h = h
broken old new Unstorable e h = absurd (let no = e in cc)

stays_shut : (was is : Bool) → (IsTrue is → IsTrue was) → was ≡ false → is ≡ false
stays_shut was true opens shut = absurd (let yes = opens refl in cc)
stays_shut was false opens shut = refl

shut : (old new : State) (e : Error) → e ≡ gone → Fails old new ⊤ e → new.is_open ≡ false
shut old new e is h = stays_shut old.is_open new.is_open h.3.was_open
    (broken old new h.0 (sym h.1 ∙ is) h.2)

pub asks_ok : (old new : State) (count : ℕ) → Survives old new (CommitsBy no_text [] old) →
    (HasCleanDisk new → Executes no_text [] old new (Ok count)) → Probes old new (Ok tt)
asks_ok old new count survives h = record {
  shown = λ clean. asked old new count (h clean);
  shut = λ clean no. absurd (let e = no in cc);
  left = λ clean auto settled. unchanged_undone old new auto settled
      (asked old new count (h clean));
  quiet = survives.clean;
  stops = no_stops old new survives;
}

pub asks_err : (old new : State) (e : Error) → Survives old new (CommitsBy no_text [] old) →
    (HasCleanDisk new → Executes no_text [] old new (Err e)) → Probes old new (Err e)
asks_err old new e survives h = record {
  shown = λ clean. tt;
  shut = λ clean is. shut old new e (let same = is in cc) (unasked old new e (h clean));
  left = λ clean auto settled. rolled_undone old new (unasked old new e (h clean)).3;
  quiet = survives.clean;
  stops = no_stops old new survives;
}
