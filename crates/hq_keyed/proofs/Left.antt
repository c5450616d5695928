-- What a call that fails leaves.
use Rattle.std.proofs.Common.{inl, inr, arith, ℕ, List, Option, Some, None, Ok, Err}
use Rattle.std.proofs.Common.{false}
use Rattle.std.proofs.lemmas.Bool.{cases_Bool}
use Rattle.sqlite.specs.Order.{Row}
use Rattle.sqlite.specs.declared.error.Error.{Error}
use Rattle.sqlite_resolve.specs.declared.compiled.Compiled.{Compiled}
use Rattle.sqlite_schema.specs.declared.command.Returning.{Returning}
use Rattle.sqlite.specs.Clock.{timed}
use Rattle.sqlite.specs.State.{State, HasCleanDisk, IsUnchanged, IsNotRun, FailsToQuery}
use Rattle.sqlite.specs.State.{FailsToShow, RunsCommand, ExecutesIn, Executes, shows_rows}
use Rattle.sqlite.specs.State.{Shown, ShowsRows}
use Rattle.sqlite.specs.Listing.{understood}
use Rattle.sqlite.proofs.Callers.{IsPlain}
use Rattle.std.proofs.Common.{subst, Result, OnErr}
use Rattle.std.proofs.Common.{refl, ◌∙◌}
use Rattle.sqlite.specs.State.{KeepsCommit}
use Rattle.hq_keyed.specs.Left.{IsLeft, IsQuiet}

not_run : (old new : State) (sql : List ℕ) (params : Row) (e : Error) →
    IsNotRun old new sql params e → IsLeft old new
unfolding IsNotRun IsLeft
not_run old new sql params e (inl h) = inl h.1
not_run old new sql params e (inr h) = inr h.3

command_left : (old new : State) (sql : List ℕ) (c : Compiled) (params : Row) (e : Error) →
    RunsCommand old new sql c params (Err e) → IsLeft old new
unfolding IsLeft
command_left old new sql c params e (inl h) = inl h.1
command_left old new sql c params e (inr h) = inr h.3

show_left : (old new : State) (sql : List ℕ) (c : Compiled) (params : Row) (e : Error)
    (o : Option Returning) → FailsToShow old new sql c params e o → IsLeft old new
unfolding IsLeft
show_left old new sql c params e None h = inl h.3
show_left old new sql c params e (Some r) h = command_left old new sql c params e h

pub query_left : (old new : State) (sql : List ℕ) (params : Row) (e : Error) →
    FailsToQuery sql params old new e → IsLeft old new
unfolding FailsToQuery
query_left old new sql params e (inl h) = not_run old new sql params e h
query_left old new sql params e (inr h) =
    show_left old new sql h.0 (timed params h.0.formats h.1.now) e h.0.returning h.2

pub execute_left : (old new : State) (sql : List ℕ) (params : Row) (e : Error) →
    Executes sql params old new (Err e) → IsLeft old new
unfolding ExecutesIn IsLeft
execute_left old new sql params e (inl h) = not_run old new sql params e h
execute_left old new sql params e (inr h) = elim (cases_Bool (shows_rows false h.0)) [
  | inl shows ↦ inl (rw shows at h.2).1
  | inr runs ↦ command_left old new sql h.0 (timed params h.0.formats h.1.now) e (rw runs at h.2)
]

pub shown_unchanged : (old new : State) (sql : List ℕ) (params : Row) (rows : List Row) →
    IsPlain (understood old.now.schema sql) → Shown sql params old new rows → IsUnchanged old new
unfolding Shown
shown_unchanged old new sql params rows plain h =
    let none = (subst IsPlain h.1.is plain).0 in
    (subst (ShowsRows old new sql h.0 (timed params h.0.formats h.1.now) rows) none h.2).3

pub on_err : {T E P : Type 0} (r : Result T E) → P → OnErr r P
on_err (Ok x) p = tt
on_err (Err e) p = p

pub left_keeps : (old new : State) → IsLeft old new → KeepsCommit old new
unfolding IsLeft
left_keeps old new (inl h) = record {
  was_open = λ _. h.0.was_open;
  committed = λ _. h.0.committed_is;
}
left_keeps old new (inr h) = record { was_open = h.was_open; committed = λ is. (h.undone is).1 }

pub keeps_then : (a b c : State) → KeepsCommit a b → KeepsCommit b c → KeepsCommit a c
keeps_then a b c p q = record {
  was_open = λ is. p.was_open (q.was_open is);
  committed = λ is. q.committed is ∙ p.committed (q.was_open is);
}

pub keeps_itself : (a : State) → KeepsCommit a a
keeps_itself a = record { was_open = λ is. is; committed = λ _. refl }

-- ---- what is clean later was clean before

pub clean_before : (old new : State) → IsQuiet old new → HasCleanDisk new → HasCleanDisk old
clean_before old new quiet clean = omega (arith, quiet, clean)

pub quiet_then : (a b c : State) → IsQuiet a b → IsQuiet b c → IsQuiet a c
quiet_then a b c p q = omega (arith, p, q)

pub unchanged_keeps : (old new : State) → IsUnchanged old new → KeepsCommit old new
unchanged_keeps old new h = record {
  was_open = λ _. h.0.was_open;
  committed = λ _. h.0.committed_is;
}

-- ---- a constraint
