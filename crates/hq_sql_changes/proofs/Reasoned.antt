-- Messages that are given a reason: one after another, or all in one statement.
use Rattle.std.proofs.Common.{◌≡◌, ℕ, ◌+◌, Bool, true, false, List, [], ◌∷◌, ◌++◌, take, IsTrue}
use Rattle.std.proofs.Common.{refl, sym, ap, ◌∙◌, subst, arith}
use Rattle.std.specs.FinMap.{FinMap, insert}
use Rattle.sqlite.specs.State.{State, HasCleanDisk, IsUnchanged}
use Rattle.hq_keyed.proofs.Left.{clean_before, keeps_itself, keeps_then, quiet_then}
use Rattle.hq_tables.specs.Tables.{Tables, message_cmp, give_reason}
use Rattle.hq_values.specs.Words.{customer_hold}
use Rattle.hq_sql.specs.Kept.{KeepsCommitted}
use Rattle.hq_sql.specs.Tables.{IsDesk, Leaves, tables_in}
use Rattle.hq_sql.proofs.Tables.{leaves_then}
use Rattle.hq_sql_messages.specs.Holds.{hold_each, with_reason}
use Rattle.hq_sql_messages.specs.Moves.{AddedAll, standing_serials, with_queued_held}
use Rattle.hq_sql_changes.specs.Moved.{give_all, with_reasons}
use Rattle.hq_sql_changes.proofs.Steps.{desk_after, made_after}

abbrev Holds : Type 0
Holds = FinMap message_cmp (List ℕ)

-- ---- one after another

given_next : (c reason serials : List ℕ) (serial : ℕ) (hs : Holds) →
    give_all c reason (serials ++ serial ∷ []) hs ≡ give_reason c serial reason
    (give_all c reason serials hs)
given_next c reason [] serial hs = refl
given_next c reason (s ∷ serials) serial hs =
    given_next c reason serials serial (give_reason c s reason hs)

-- the first n of these messages have the reason
pub record Reasoned (a b : State) (c reason serials : List ℕ) (n : ℕ) : Type 0 where
  pub made : HasCleanDisk b → IsDesk a.now → IsTrue a.is_open →
      Leaves a b (with_reasons c reason (take n serials) (tables_in a.now))
  pub desk : HasCleanDisk b → IsDesk a.now → IsDesk b.now
  pub mode : HasCleanDisk b → IsDesk a.now → b.in_transaction ≡ a.in_transaction
  pub kept : KeepsCommitted a b

pub begun : (a : State) (c reason serials : List ℕ) → Reasoned a a c reason serials 0
begun a c reason serials = record {
  made = λ clean desk is. record {
    desk = desk;
    tables = refl;
    is_open = is;
    was_open = is;
    mode = refl;
    committed = λ _. refl;
  };
  desk = λ clean desk. desk;
  mode = λ clean desk. refl;
  kept = record {
    kept = λ clean desk within. keeps_itself a;
    quiet = omega arith;
    stops = λ desk within clean db may. may;
  };
}

module _ (a b : State) (c reason serials : List ℕ) (n : ℕ) (it : Reasoned a b c reason serials n)
  where
    module _ (d : State) (q : KeepsCommitted b d) where
      pub kept_on : KeepsCommitted a d
      kept_on = record {
        kept = λ clean desk within.
            let was = clean_before b d q.quiet clean in
            keeps_then a b d (it.kept.kept was desk within) (q.kept clean (it.desk was desk)
            (subst IsTrue (sym (it.mode was desk)) within));
        quiet = quiet_then a b d it.kept.quiet q.quiet;
        stops = λ desk within clean db may.
            let was = clean_before b d q.quiet clean in
            it.kept.stops desk within was db (q.stops (it.desk was desk)
            (subst IsTrue (sym (it.mode was desk)) within) clean db may);
      }

      pub stepped : (serial : ℕ) → take (n + 1) serials ≡ take n serials ++ serial ∷ []
          → (HasCleanDisk d → IsDesk b.now →
          Leaves b d (with_reason c serial reason (tables_in b.now))) →
          Reasoned a d c reason serials (n + 1)
      stepped serial next made = record {
        made = λ clean desk is.
            let t = tables_in a.now in
            let l = it.made (clean_before b d q.quiet clean) desk is in
            subst (Leaves a d) (ap (with_reason c serial reason) l.tables
            ∙ ap (λ hs. record t { holds = hs })
            (sym (ap (λ ss. give_all c reason ss t.holds) next
            ∙ given_next c reason (take n serials) serial t.holds)))
            (leaves_then a b d _ _ l (made clean l.desk));
        desk = λ clean desk. (made clean (it.desk (clean_before b d q.quiet clean) desk)).desk;
        mode = λ clean desk.
            let was = clean_before b d q.quiet clean in
            (made clean (it.desk was desk)).mode ∙ it.mode was desk;
        kept = kept_on;
      }

pub ended : (a b : State) (c reason serials : List ℕ) (n : ℕ) → take n serials ≡ serials →
    Reasoned a b c reason serials n → IsTrue a.is_open → HasCleanDisk b → IsDesk a.now →
    Leaves a b (with_reasons c reason serials (tables_in a.now))
ended a b c reason serials n whole it is clean desk =
    subst (λ ss. Leaves a b (with_reasons c reason ss (tables_in a.now))) whole
    (it.made clean desk is)

-- ---- in one statement

-- the reason of a hold is not empty, so it stands where it is given
each_given : (c serials : List ℕ) (hs : Holds) →
    hold_each c customer_hold serials hs ≡ give_all c customer_hold serials hs
unfolding give_reason
each_given c [] hs = refl
each_given c (s ∷ serials) hs = each_given c serials (insert hs (c, s) customer_hold)

pub all_given : (c reason serials : List ℕ) (t : Tables) → reason ≡ customer_hold →
    record t { holds = hold_each c reason serials t.holds } ≡ with_reasons c customer_hold serials t
all_given c reason serials t is = ap (λ r. record t { holds = hold_each c r serials t.holds }) is
    ∙ ap (λ hs. record t { holds = hs }) (each_given c serials t.holds)

pub given_at_once : (old new : State) (c reason : List ℕ) (there : Bool) →
    reason ≡ customer_hold → there ≡ false → AddedAll there old new (tables_in old.now)
    (with_queued_held c reason (tables_in old.now)) → Leaves old new (with_reasons c customer_hold
    (standing_serials c false (tables_in old.now)) (tables_in old.now))
given_at_once old new c reason there is none h = subst (Leaves old new)
    (all_given c reason (standing_serials c false (tables_in old.now)) (tables_in old.now) is)
    (h.made none)

-- where one had a reason, each is given it by itself
pub given_each : (old a b new : State) (c reason serials : List ℕ) (there : Bool) (t : Tables) →
    reason ≡ customer_hold → there ≡ true → AddedAll there old a (tables_in old.now) t
    → (IsDesk a.now → IsUnchanged a b)
    → (IsDesk a.now → serials ≡ standing_serials c false (tables_in a.now))
    → (IsTrue b.is_open → IsDesk b.now →
    Leaves b new (with_reasons c reason serials (tables_in b.now))) →
    Leaves old new (with_reasons c customer_hold (standing_serials c false (tables_in old.now))
    (tables_in old.now))
given_each old a b new c reason serials there t is some h seen found put =
    let l = h.untouched some in
    let same = seen l.desk in
    let behind = put same.0.is_open (desk_after a b same l.desk) in
    let each : with_reasons c reason serials (tables_in a.now) ≡ with_reasons c customer_hold
    (standing_serials c false (tables_in old.now)) (tables_in old.now) =
    (λ i. with_reasons c (is i) (found l.desk i) (tables_in a.now))
    ∙ ap (λ u. with_reasons c customer_hold (standing_serials c false u) u) l.tables in
    leaves_then old a new _ _ l
    (made_after (with_reasons c reason serials) a b new _ same behind each)
