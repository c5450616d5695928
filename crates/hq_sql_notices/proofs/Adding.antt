-- Ends added one after another behind those that stay: what is left, and what is kept.
use Rattle.std.proofs.Common.{◌≡◌, ℕ, suc, ◌+◌, ◌-◌, ◌<◌, ◌≤◌, List, [], ◌∷◌, ◌++◌, length, take}
use Rattle.std.proofs.Common.{None, sym, ap, ◌∙◌, subst, arith}
use Rattle.std.specs.FinMap.{get, insert}
use Rattle.sqlite.specs.State.{State, HasCleanDisk}
use Rattle.hq_keyed.proofs.Left.{clean_before}
use Rattle.hq_kept.specs.declared.outcome.Ended.{Ended}
use Rattle.hq_tables.specs.Tables.{Tables, add_rows}
use Rattle.hq_tables.proofs.Added.{Rows, past, add_next, add_below, none_above}
use Rattle.hq_sql.specs.Kept.{KeepsCommitted}
use Rattle.hq_sql.specs.Tables.{IsDesk, Leaves, tables_in}
use Rattle.hq_sql.proofs.Tables.{leaves_then}
use Rattle.hq_sql.proofs.Steps.{keeps_on}
use Rattle.hq_sql_notices.specs.Ends.{end_at, end_row, with_end, with_ends, without_above}

-- the first n of the ends are added behind those that stay
pub record Added (a b : State) (c : List ℕ) (at before : ℕ) (es : List Ended) (n : ℕ) : Type 0 where
  pub made : HasCleanDisk b → IsDesk a.now →
      Leaves a b (record (tables_in a.now) {
        ends = add_rows c at (before + n) (take n es)
            (without_above c before (tables_in a.now)).ends;
      })
  pub kept : KeepsCommitted a b

module _ (a b : State) (c : List ℕ) (at before : ℕ) (es : List Ended) where
  none : before + 0 ≡ before
  none = omega arith

  pub begun : KeepsCommitted a b →
      (HasCleanDisk b → IsDesk a.now → Leaves a b (without_above c before (tables_in a.now))) →
      Added a b c at before es 0
  begun kept made = record {
    made = λ clean desk. subst (λ n. Leaves a b (record (tables_in a.now) {
      ends = add_rows c at n [] (without_above c before (tables_in a.now)).ends;
    })) (sym none) (made clean desk);
    kept = kept;
  }

  module _ (n : ℕ) (it : Added a b c at before es n) (d : State) (q : KeepsCommitted b d) where
    pub kept_on : KeepsCommitted a d
    kept_on = keeps_on a b d _ it.kept it.made q

    pub stepped : (e : Ended) → take (n + 1) es ≡ take n es ++ e ∷ [] → (number : ℕ) →
        number ≡ before + n + 1
        → (HasCleanDisk d → IsDesk b.now → get (tables_in b.now).ends (c, number) ≡ None →
        Leaves b d (with_end (end_row c (end_at number at e)) (tables_in b.now)))
        → Added a d c at before es (n + 1)
    stepped e next number is made = record {
      made = λ clean desk.
          let t = tables_in a.now in
          let base : Rows = (without_above c before t).ends in
          let l = it.made (clean_before b d q.quiet clean) desk in
          let upward : before + n < number = omega arith in
          let behind : before < number = omega arith in
          let same : suc (before + n) ≡ number = omega arith in
          let last : before + (n + 1) ≡ suc (before + n) = omega arith in
          let free : get (tables_in b.now).ends (c, number) ≡ None =
          ap (λ (u : Tables). get u.ends (c, number)) l.tables
          ∙ add_below c at (before + n) (take n es) base number upward
          ∙ none_above c before t.ends number behind in
          let after : insert (add_rows c at (before + n) (take n es) base) (c, number) (past at e) ≡
          add_rows c at (before + (n + 1)) (take (n + 1) es) base =
          ap (λ k. insert (add_rows c at (before + n) (take n es) base) (c, k) (past at e))
          (sym same)
          ∙ sym (add_next c at (before + n) (take n es) e base)
          ∙ (λ i. add_rows c at (sym last i) (sym next i) base) in
          subst (Leaves a d)
          (ap (with_end (end_row c (end_at number at e))) l.tables
          ∙ ap (λ m. record t { ends = m }) after)
          (leaves_then a b d _ _ l (made clean l.desk free));
      kept = kept_on;
    }

  -- all are added
  pub ended : (last n : ℕ) → before ≡ last - length es → length es ≤ last → n ≡ length es →
      take n es ≡ es → Added a b c at before es n → HasCleanDisk b → IsDesk a.now →
      Leaves a b (with_ends c (record { last = last; at = at; ended = es }) (tables_in a.now))
  ended last n first enough all whole it clean desk =
      let number : before + n ≡ last = omega arith in
      subst (λ m. Leaves a b (record (tables_in a.now) { ends = m }))
      (λ i. add_rows c at (number i) (whole i) (without_above c (first i) (tables_in a.now)).ends)
      (it.made clean desk)
