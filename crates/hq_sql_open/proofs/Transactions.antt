-- BEGIN, COMMIT, ROLLBACK and the statement that does nothing, under any schema.
use Rattle.std.proofs.Common.{◌≡◌, inl, inr, ℕ, Bool, true, false, true≢false, List, [], None}
use Rattle.std.proofs.Common.{Result, Ok, Err, OnErr, codes, refl, sym, ap, ◌∙◌, subst}
use Rattle.sqlite.specs.Order.{Row}
use Rattle.sqlite.specs.Tree.{Trees}
use Rattle.sqlite.specs.Schema.{Schema}
use Rattle.sqlite.specs.Command.{Command}
use Rattle.sqlite.specs.Command.TheVariants.{Begin, Commit, Rollback, Nothing}
use Rattle.sqlite.specs.declared.error.Error.{Error}
use Rattle.sqlite.specs.Listing.{understood}
use Rattle.sqlite.specs.State.{State, HasCleanDisk, Executes, Survives, CommitsBy, MayWrite}
use Rattle.sqlite.specs.State.{text_of}
use Rattle.sqlite.specs.Clock.{timed}
use Rattle.sqlite_tied.specs.Compute.{everything}
use Rattle.sqlite.proofs.Callers.{IsPlain, command_of, runs_as}
use Rattle.hq_keyed.specs.Left.{IsLeft, LeavesNoMore}
use Rattle.hq_keyed.proofs.Left.{left_keeps}
use Rattle.hq_sql_open.specs.Transactions.{IsBegun, IsDone, LeavesAlso, KeepsUnlessDone}
use Rattle.hq_sql_open.specs.Transactions.{KeepsOrCommits}

-- ---- the texts

abbrev pub begin_text : List ℕ
begin_text = codes "BEGIN"

abbrev pub commit_text : List ℕ
commit_text = codes "COMMIT"

abbrev pub rollback_text : List ℕ
rollback_text = codes "ROLLBACK"

-- a text without a statement
abbrev pub no_text : List ℕ
no_text = codes ""

begin_is : (schema : Schema) → command_of (understood schema begin_text) ≡ Begin
unfolding understood everything
begin_is schema = refl

begin_plain : (schema : Schema) → IsPlain (understood schema begin_text)
unfolding understood everything
begin_plain schema = (refl, refl)

commit_is : (schema : Schema) → command_of (understood schema commit_text) ≡ Commit
unfolding understood everything
commit_is schema = refl

commit_plain : (schema : Schema) → IsPlain (understood schema commit_text)
unfolding understood everything
commit_plain schema = (refl, refl)

pub rollback_is : (schema : Schema) → command_of (understood schema rollback_text) ≡ Rollback
unfolding understood everything
rollback_is schema = refl

pub rollback_plain : (schema : Schema) → IsPlain (understood schema rollback_text)
unfolding understood everything
rollback_plain schema = (refl, refl)

pub no_is : (schema : Schema) → command_of (understood schema no_text) ≡ Nothing
unfolding understood everything
no_is schema = refl

pub no_plain : (schema : Schema) → IsPlain (understood schema no_text)
unfolding understood everything
no_plain schema = (refl, refl)

-- ---- what they leave

pub begun : (old new : State) (count : ℕ) → Executes begin_text [] old new (Ok count) →
    IsBegun old new
begun old new count h = (runs_as begin_text [] old new old.now.schema refl Begin
    (begin_is old.now.schema) (begin_plain old.now.schema) count h).1

pub done : (old new : State) (count : ℕ) → Executes commit_text [] old new (Ok count) →
    IsDone old new
done old new count h = (runs_as commit_text [] old new old.now.schema refl Commit
    (commit_is old.now.schema) (commit_plain old.now.schema) count h).1

-- ---- what a crash may find

-- whether it begins, commits or undoes a transaction by itself, or does nothing
abbrev moves : Command → Bool
moves Begin = true
moves Commit = true
moves Rollback = true
moves Nothing = true
moves _ = false

abbrev is_commit : Command → Bool
is_commit Commit = true
is_commit _ = false

-- such a command writes nothing of its own
never_writes : (s : State) (command : Command) (text : List ℕ) (params : Row) (db : Trees) →
    moves command ≡ true → MayWrite s None command text params db → ⊥
never_writes s Begin text params db e h = absurd (let no = h.3 in cc)
never_writes s Commit text params db e h = absurd (let no = h.3 in cc)
never_writes s Rollback text params db e h = absurd (let no = h.3 in cc)
never_writes s Nothing text params db e h = absurd (let no = h.3 in cc)
never_writes s _ text params db e h = cc

module _ (old : State) (text : List ℕ) (db : Trees)
    (plain : IsPlain (understood old.now.schema text))
    (known : moves (command_of (understood old.now.schema text)) ≡ true)
    (h : CommitsBy text [] old db) where
  pub commits_now : (is_commit (command_of (understood old.now.schema text)) ≡ true)
      × (db ≡ old.now.trees)
  unfolding CommitsBy
  commits_now =
      let none = (subst IsPlain h.1.is plain).0 in
      let moved : moves h.0.command ≡ true = ap (λ r. moves (command_of r)) (sym h.1.is) ∙ known in
      elim h.2 [
        | inl ends ↦ elim ends.0 [
          | inl commits ↦ (ap (λ r. is_commit (command_of r)) h.1.is ∙ ap is_commit commits, ends.1)
          | inr releases ↦ absurd (true≢false (sym moved ∙ ap moves releases.2))
        ]
        | inr writes ↦ absurd (never_writes old h.0.command (text_of text h.0)
            (timed [] h.0.formats h.1.now) db moved (subst
            (λ r. MayWrite old r h.0.command (text_of text h.0) (timed [] h.0.formats h.1.now) db)
            none writes))
      ]

pub begin_stops : (old new : State) → Survives old new (CommitsBy begin_text [] old) →
    LeavesNoMore old new
begin_stops old new h = λ clean db may. elim (h.crash clean db may) [
  | inl was ↦ was
  | inr commits ↦ absurd (true≢false
      (sym (commits_now old begin_text db (begin_plain old.now.schema)
      (ap moves (begin_is old.now.schema)) commits).0 ∙ ap is_commit (begin_is old.now.schema)))
]

pub rollback_stops : (old new : State) → Survives old new (CommitsBy rollback_text [] old) →
    LeavesNoMore old new
rollback_stops old new h = λ clean db may. elim (h.crash clean db may) [
  | inl was ↦ was
  | inr commits ↦ absurd (true≢false
      (sym (commits_now old rollback_text db (rollback_plain old.now.schema)
      (ap moves (rollback_is old.now.schema)) commits).0
      ∙ ap is_commit (rollback_is old.now.schema)))
]

pub commit_stops : (old new : State) → Survives old new (CommitsBy commit_text [] old) →
    LeavesAlso old new old.now.trees
commit_stops old new h = λ clean db may. elim (h.crash clean db may) [
  | inl was ↦ inl was
  | inr commits ↦ inr (commits_now old commit_text db (commit_plain old.now.schema)
      (ap moves (commit_is old.now.schema)) commits).1
]

pub no_stops : (old new : State) → Survives old new (CommitsBy no_text [] old) →
    LeavesNoMore old new
no_stops old new h = λ clean db may. elim (h.crash clean db may) [
  | inl was ↦ was
  | inr commits ↦ absurd (true≢false (sym
      (commits_now old no_text db (no_plain old.now.schema) (ap moves (no_is old.now.schema))
      commits).0 ∙ ap is_commit (no_is old.now.schema)))
]

-- ---- what they keep

pub begin_keeps : {X : Type 0} (old new : State) (result : Result X Error) →
    Survives old new (CommitsBy begin_text [] old) →
    (HasCleanDisk new → OnErr result (IsLeft old new)) → KeepsUnlessDone old new result
begin_keeps old new (Ok x) survives h = record {
  kept = λ clean. tt;
  quiet = survives.clean;
  stops = begin_stops old new survives;
}
begin_keeps old new (Err e) survives h = record {
  kept = λ clean. left_keeps old new (h clean);
  quiet = survives.clean;
  stops = begin_stops old new survives;
}

pub commit_keeps : {X : Type 0} (old new : State) (result : Result X Error) →
    Survives old new (CommitsBy commit_text [] old) →
    (HasCleanDisk new → OnErr result (IsLeft old new)) → KeepsOrCommits old new result
commit_keeps old new (Ok x) survives h = record {
  kept = λ clean. tt;
  quiet = survives.clean;
  stops = commit_stops old new survives;
}
commit_keeps old new (Err e) survives h = record {
  kept = λ clean. left_keeps old new (h clean);
  quiet = survives.clean;
  stops = commit_stops old new survives;
}
