-- Rows that are lent one after another: what is kept at each, and what was taken so far.
use Rattle.std.proofs.Common.{◌≡◌, ◌⊎◌, inl, inr, ℕ, List, [], ◌∷◌, ◌++◌, map, append-nil}
use Rattle.std.proofs.Common.{append_assoc, Some, None, Result, Ok, Err, IsErr, OnOk, refl, sym, ap}
use Rattle.std.proofs.Common.{◌∙◌, subst}
use Rattle.std.specs.List.{FoldsTo}
use Rattle.std.proofs.lemmas.Fn.{FoldsTo-push}
use Rattle.sqlite_trees.specs.declared.store.Store.{Ghosts}
use Rattle.sqlite.specs.Order.{Row}
use Rattle.sqlite.specs.Schema.{Schema}
use Rattle.sqlite.specs.Effect.{Database}
use Rattle.sqlite.specs.declared.error.Error.{Error}
use Rattle.sqlite.specs.Clock.{timed}
use Rattle.sqlite.specs.Listing.{understood, reads_listing, IsSourceOf}
use Rattle.sqlite.specs.Given.{IsPlain, HasGiven, HasBegun, Advances}
use Rattle.sqlite.specs.Held.{Held, state}
use Rattle.sqlite.specs.State.{State, HasCleanDisk, IsUnchanged, KeepsCommit, Fails, Survives}
use Rattle.sqlite.specs.State.{CommitsShowing, Shown, ShowsRows}
use Rattle.sqlite.proofs.Callers.{begun_plain, unchanged_then}
use Rattle.hq_keyed.specs.Left.{IsQuiet, LeavesNoMore}
use Rattle.hq_keyed.proofs.Left.{clean_before, quiet_then, keeps_then, unchanged_keeps, on_err}
use Rattle.hq_keyed.proofs.Stops.{query_leaves_no_more}
use Rattle.hq_sql.specs.Tables.{IsDesk}
use Rattle.hq_sql.specs.Kept.{Intact}
use Rattle.hq_sql.specs.Lent.{IsQuery, TakesAll}

on_ok : {X E P : Type 0} (r : Result X E) → P → OnOk r P
on_ok (Ok x) p = p
on_ok (Err e) p = tt

no_ok : {X E : Type 0} (P : Type 0) (r : Result X E) → IsErr r → OnOk r P
no_ok P (Ok x) is = absurd (let f = is in cc)
no_ok P (Err e) is = tt

plain_here : (s : State) (text : List ℕ) → IsQuery text → IsDesk s.now →
    IsPlain (understood s.now.schema text)
plain_here s text query desk = subst (λ (k : Schema). IsPlain (understood k text))
    (sym desk.schema_is) query.plain

failed_keeps : (old new : State) (e : Error) → Fails old new ⊥ e ⊎ IsUnchanged old new →
    KeepsCommit old new
failed_keeps old new e (inl h) = record {
  was_open = h.3.was_open;
  committed = λ is. (h.3.undone is).1;
}
failed_keeps old new e (inr h) = unchanged_keeps old new h

-- an answer over a connection is one over what the connection was before, where nothing changed
-- between
shown_from : (text : List ℕ) (params : Row) (old mid new : State) (rows : List Row) →
    IsPlain (understood mid.now.schema text) → IsUnchanged old mid → Shown text params mid new rows
    → Shown text params old new rows
unfolding Shown
shown_from text params old mid new rows plain before h =
    let none = (subst IsPlain h.1.is plain).0 in
    let full = timed params h.0.formats h.1.now in
    let it = subst (ShowsRows mid new text h.0 full rows) none h.2 in
    let same = before.0.now_is in (
      h.0,
      record {
        is = subst (λ (d : Database). understood d.schema text ≡ Ok h.0) same h.1.is;
        whole = h.1.whole;
        given = h.1.given;
        now = h.1.now;
      },
      subst (ShowsRows old new text h.0 full rows) (sym none) (
        it.0,
        subst (λ (d : Database). IsSourceOf (reads_listing d.schema text) d it.0) same it.1,
        it.2,
        unchanged_then old mid new before it.3,
      ),
    )

-- the rows so far were given, and taken
pub record TakenSoFar {S T : Type 0} (g : Ghosts S) (takes : T → Row → T → Type 0) (text : List ℕ)
    (params : Row) (old : State) (now : Held S) (first last : T) : Type 0 where
  pub rows : List Row
  pub given : HasGiven g text params now rows
  pub same : IsUnchanged old (state g now)
  pub taken : FoldsTo takes first rows last

-- a walk over the rows has come so far
pub record Walks {S T : Type 0} (g : Ghosts S) (takes : T → Row → T → Type 0) (text : List ℕ)
    (params : Row) (old : State) (now : Held S) (first last : T) : Type 0 where
  pub quiet : IsQuiet old (state g now)
  pub stops : IsQuery text → IsDesk old.now → LeavesNoMore old (state g now)
  pub taken : IsQuery text → HasCleanDisk (state g now) → IsDesk old.now →
      TakenSoFar g takes text params old now first last

module _ {S T : Type 0} (g : Ghosts S) (takes : T → Row → T → Type 0) (text : List ℕ) (params : Row)
  where
    -- no row is given yet
    pub begun : (old new : Held S) (first : T) →
        (HasCleanDisk (state g new) → HasBegun g text params old new) →
        Survives (state g old) (state g new) (CommitsShowing text params (state g old))
        → Walks g takes text params (state g old) new first first
    begun old new first h survives = record {
      quiet = survives.clean;
      stops = λ query desk. query_leaves_no_more (state g old) (state g new) text params
          (plain_here (state g old) text query desk) survives;
      taken = λ query clean desk.
          let it = begun_plain g text params old new (plain_here (state g old) text query desk)
          (h clean) in
          record { rows = []; given = it.0; same = it.1; taken = refl };
    }

    module _ (old : State) (now : Held S) (first last : T)
        (it : Walks g takes text params old now first last) where
      -- an error that the library does not know of
      pub keeps_so_far : {X : Type 0} (r : Result X Error) → IsErr r → IsQuery text →
          Intact old (state g now) r
      keeps_so_far r is query = record {
        same = λ clean desk. no_ok _ r is;
        kept = λ clean desk. on_err r
            (unchanged_keeps old (state g now) (it.taken query clean desk).same);
        quiet = it.quiet;
        stops = it.stops query;
      }

      module _ (new : Held S) (survives : Survives (state g now) (state g new) (λ _. ⊥)) where
        before : HasCleanDisk (state g new) → HasCleanDisk (state g now)
        before clean = clean_before (state g now) (state g new) survives.clean clean

        no_more : IsQuery text → IsDesk old.now → LeavesNoMore old (state g new)
        no_more query desk = λ clean db may. it.stops query desk (before clean) db
            (elim (survives.crash clean db may) [ inl was ↦ was | inr none ↦ absurd none ])

        quiet_on : IsQuiet old (state g new)
        quiet_on = quiet_then old (state g now) (state g new) it.quiet survives.clean

        -- one row more
        pub went_on : (row : Row) (next : T) →
            (HasCleanDisk (state g new) → Advances g now new (Some row)) →
            (HasCleanDisk (state g new) → IsUnchanged (state g now) (state g new)) →
            takes last row next
            → Walks g takes text params old new first next
        went_on row next ok same take = record {
          quiet = quiet_on;
          stops = no_more;
          taken = λ query clean desk.
              let was = it.taken query (before clean) desk in
              record {
                rows = was.rows ++ row ∷ [];
                given = ok clean text params was.rows was.given;
                same = unchanged_then old (state g now) (state g new) was.same (same clean);
                taken = FoldsTo-push takes first was.rows last row next was.taken take;
              };
        }

        -- no row is left
        pub all_taken : (HasCleanDisk (state g new) → Advances g now new None) → IsQuery text →
            HasCleanDisk (state g new) → IsDesk old.now →
            TakesAll takes text params old (state g new) first last
        all_taken ok query clean desk =
            let was = it.taken query (before clean) desk in
            let plain = subst (λ (d : Database). IsPlain (understood d.schema text))
            (sym was.same.0.now_is) (plain_here old text query desk) in
            record {
              rows = was.rows;
              shown = shown_from text params old (state g now) (state g new)
                  was.rows plain was.same (ok clean text params was.rows was.given);
              taken = was.taken;
            }

        -- a step that changed nothing, whatever comes of it
        pub keeps_same : {X : Type 0} (r : Result X Error) →
            (HasCleanDisk (state g new) → IsUnchanged (state g now) (state g new)) → IsQuery text →
            Intact old (state g new) r
        keeps_same r same query = record {
          same = λ clean desk. on_ok r (unchanged_then old (state g now) (state g new)
              (it.taken query (before clean) desk).same (same clean));
          kept = λ clean desk. on_err r (keeps_then old (state g now) (state g new)
              (unchanged_keeps old (state g now) (it.taken query (before clean) desk).same)
              (unchanged_keeps (state g now) (state g new) (same clean)));
          quiet = quiet_on;
          stops = no_more query;
        }

        -- a step that failed
        pub keeps_failing : {X : Type 0} (e : Error) (r : Result X Error) → IsErr r →
            (HasCleanDisk (state g new) → Fails (state g now) (state g new) ⊥ e
            ⊎ IsUnchanged (state g now) (state g new)) → IsQuery text
            → Intact old (state g new) r
        keeps_failing e r is failed query = record {
          same = λ clean desk. no_ok _ r is;
          kept = λ clean desk. on_err r (keeps_then old (state g now) (state g new)
              (unchanged_keeps old (state g now) (it.taken query (before clean) desk).same)
              (failed_keeps (state g now) (state g new) e (failed clean)));
          quiet = quiet_on;
          stops = no_more query;
        }

-- values of rows, pushed one after another
pub pushed_all : {T X : Type 0} (items : T → List X) (read : Row → X) (rows : List Row) (p q : T) →
    FoldsTo (λ p r q. items q ≡ items p ++ read r ∷ []) p rows q → items q ≡ items p
    ++ map read rows
pushed_all items read [] p q h = ap items (sym h) ∙ sym (append-nil (items p))
pushed_all items read (r ∷ rs) p q h = pushed_all items read rs h.0 q h.2
    ∙ ap (λ l. l ++ map read rs) h.1 ∙ append_assoc (items p) (read r ∷ []) (map read rs)
