-- What a text is known to mean under a schema, and so what a call of it does.
use Rattle.std.proofs.Common.{◌≡◌, ℕ, Bool, true, false, cond, List, [], None, Ok, IsTrue, ap, ◌∙◌}
use Rattle.sqlite.specs.declared.types.Value.TheVariants.{Null}
use Rattle.sqlite.specs.Order.{Row}
use Rattle.sqlite.specs.Schema.{Schema}
use Rattle.sqlite.specs.Command.{Command}
use Rattle.sqlite.specs.Command.TheVariants.{Insert, Update, Select, Delete}
use Rattle.sqlite.specs.Query.{Query, IsAnswer}
use Rattle.sqlite.specs.Program.{overlay}
use Rattle.sqlite.specs.Effect.{Answers}
use Rattle.sqlite.specs.State.{State, Executes, KeepsCommit, Runs, Shown, Writes}
use Rattle.sqlite.specs.Listing.{understood, reads_listing}
use Rattle.sqlite.proofs.Callers.{IsPlain, command_of, reads_as, runs_as}

-- it asks this
pub record Asks (schema : Schema) (text : List ℕ) (query : Query) (names : List (List ℕ)) : Type 0
  where
    pub is : command_of (understood schema text) ≡ Select (record { lets = []; body = query }) names
    pub plain : IsPlain (understood schema text)
    pub unlisted : reads_listing schema text ≡ false

-- it orders this
pub record Orders (schema : Schema) (text : List ℕ) (command : Command) : Type 0 where
  pub is : command_of (understood schema text) ≡ command
  pub plain : IsPlain (understood schema text)

-- the rows that are shown are an answer
pub answered : (schema : Schema) (old new : State) → old.now.schema ≡ schema →
    (text : List ℕ) (params : Row) (query : Query) (names : List (List ℕ)) →
    Asks schema text query names → (rows : List Row)
    → Shown text params old new rows → IsAnswer query (overlay old.now.trees []) params rows
answered schema old new has text params query names known rows h =
    let answers : Answers old.now (record { lets = []; body = query }) params rows =
    reads_as text params old new schema has _ known.is known.plain known.unlisted rows h in
    answers.answer Null

-- whether a command changes rows of a table alone
abbrev pub changes_rows : Command → Bool
changes_rows (Insert at from) = true
changes_rows (Update at q) = true
changes_rows (Delete at q) = true
changes_rows _ = false

writes_then : (old new : State) (command : Command) (text : List ℕ) (params : Row) (count : ℕ) →
    changes_rows command ≡ true → Runs old new None command text params count →
    Writes old new None command text params count
writes_then old new (Insert at from) text params count changes h = h
writes_then old new (Update at q) text params count changes h = h
writes_then old new (Delete at q) text params count changes h = h
writes_then old new _ text params count changes h = absurd (let e = changes in cc)

-- a write goes on: in no transaction it is committed, and in one nothing is
pub record GoesOn (old new : State) : Type 0 where
  pub is_open : IsTrue new.is_open
  pub was_open : IsTrue old.is_open
  pub mode : new.in_transaction ≡ old.in_transaction
  pub committed : IsTrue old.in_transaction → new.committed ≡ old.committed

pub goes_on : (old new : State) (command : Command) (text : List ℕ) (params : Row) (count : ℕ) →
    Writes old new None command text params count → GoesOn old new
goes_on old new command text params count w = record {
  is_open = w.shown.is_open;
  was_open = w.shown.was_open;
  mode = w.shown.mode;
  committed = λ within. w.shown.committed_is ∙ ap (λ b. cond b old.committed new.now) within;
}

-- a write of rows in a transaction commits nothing
pub keeps_commit : (schema : Schema) (old new : State) → old.now.schema ≡ schema →
    (text : List ℕ) (params : Row) (command : Command) → Orders schema text command →
    changes_rows command ≡ true → (count : ℕ)
    → Executes text params old new (Ok count) → IsTrue old.in_transaction → KeepsCommit old new
keeps_commit schema old new has text params command known changes count h within =
    let on = goes_on old new command _ params count
    (writes_then old new command _ params count changes
    (runs_as text params old new schema has command known.is known.plain count h)) in
    record { was_open = λ _. on.was_open; committed = λ _. on.committed within }
