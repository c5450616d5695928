-- A move of all messages of a customer that is made in sets is the move of each by itself.
use Rattle.std.proofs.Common.{suc, ◌++◌, filter, not, Some, None, ◌≡◌, ℕ, Bool, true, false, ◌&&◌}
use Rattle.std.proofs.Common.{cond, List, [], ◌∷◌, map, length, refl, sym, ap, ◌∙◌}
use Rattle.hq_kept.specs.Messages.{is_on_hold}
use Rattle.hq_kept.specs.declared.message.Message.{Message}
use Rattle.hq_tables.specs.declared.change.Change.{Change}
use Rattle.hq_tables.specs.Tables.{row_of, joined, Tables, Row, text_cmp, message_cmp, write_all}
use Rattle.hq_rules.specs.Queues.{moved_by, put, moves_of}
use Rattle.hq_sql_messages.specs.Moves.{standing_serials, is_standing, held_row, released_row}
use Rattle.hq_sql_changes.proofs.MovedRows.{whole, rows_same, reasons_held, serials_same}
use Rattle.hq_sql_changes.proofs.MovedRows.{released_same, set_row}
use Rattle.std.specs.List.{sum_by}
use Rattle.std.specs.Ordering.{eq_by_cmp}
use Rattle.std.specs.FinMap.{entries}
use Rattle.hq_owned.specs.Owned.{rows_of, map_values}
use Rattle.hq_owned.proofs.Mapped.{same_length, same_sum}
use Rattle.hq_owned.proofs.Parts.{entries-map_values}
use Rattle.hq_tables.specs.Readings.{messages_in, read_tables, kept_in, kept_of}
use Rattle.hq_tables.specs.Sound.{AreCounted, Sound}
use Rattle.hq_rules.specs.declared.call.Move.{Move}
use Rattle.hq_rules.specs.declared.call.Move.TheVariants.{Hold, Release}
use Rattle.hq_values.specs.Words.{customer_hold}
use Rattle.hq_sql_changes.specs.Moved.{give_all, moves_from, set_moved}
use Rattle.hq_sql_changes.proofs.EachMoved.{Key, each_moved, stand_in}
use Rattle.hq_kept.specs.declared.message.QueueState.TheVariants as state

-- ---- so the sets are what each by itself makes

pub moved_as_each : (c : List ℕ) (by : Move) (t : Tables) → Sound t →
    set_moved c by t ≡ write_all c (moves_of by (read_tables c t).messages) t
moved_as_each c Hold t sound = sym (each_moved c Hold (messages_in c t) t sound.counts
    sound.recipients.placed (stand_in c t sound) ∙ (λ i. record t {
      messages = rows_same c Hold t sound i;
      holds = (reasons_held c (messages_in c t) t.holds
          ∙ ap (λ ss. give_all c customer_hold ss t.holds) (serials_same c t (entries t.messages)))
          i;
    }))
moved_as_each c (Release at) t sound = sym (each_moved c (Release at) (messages_in c t) t
    sound.counts sound.recipients.placed (stand_in c t sound) ∙ (λ i. record t {
      messages = rows_same c (Release at) t sound i;
      holds = released_same c t sound at i;
    }))

-- ---- as many are changed

moved_count : (by : Move) (m : Message) (changes : List Change) → length
    (put (moved_by by m) ++ changes) ≡ cond (is_standing (moves_from by) (row_of m))
    (suc (length changes)) (length changes)
moved_count Hold m changes = go (is_on_hold m.state)
  where
    held : Message
    held = record m { state = state.Hold; reason = customer_hold }

    go : (b : Bool) → length (put (cond b None (Some held)) ++ changes) ≡ cond (not b)
        (suc (length changes)) (length changes)
    go true = refl
    go false = refl
moved_count (Release at) m changes = go (is_on_hold m.state)
  where
    released : Message
    released = record m { state = state.Deferred; reason = []; next_try = at }

    go : (b : Bool) → length (put (cond b (Some released) None) ++ changes) ≡ cond b
        (suc (length changes)) (length changes)
    go true = refl
    go false = refl

count_rows : (c : List ℕ) (by : Move) (t : Tables) (es : List (Key × Row)) → length
    (filter (λ (e : Key × Row). eq_by_cmp text_cmp c e.0.0
    && is_standing (moves_from by) e.1) es) ≡ length (moves_of by (whole c t es))
count_rows c by t [] = refl
count_rows c by t (e ∷ es) =
    go (eq_by_cmp text_cmp c e.0.0) (count_rows c by t es)
  where
    rest : List (Key × Row)
    rest = filter (λ (x : Key × Row). eq_by_cmp text_cmp c x.0.0
        && is_standing (moves_from by) x.1) es

    inner : (b : Bool) → length rest ≡ length (moves_of by (whole c t es)) →
        length (cond b (e ∷ rest) rest) ≡ cond b (suc (length (moves_of by (whole c t es))))
        (length (moves_of by (whole c t es)))
    inner true more = ap (λ n. suc n) more
    inner false more = more

    go : (owns : Bool) → length rest ≡ length (moves_of by (whole c t es)) →
        length (cond (owns && is_standing (moves_from by) e.1) (e ∷ rest) rest) ≡ length
        (moves_of by (map (λ (x : ℕ × Row). joined c t.recipients t.holds x.0 x.1)
        (cond owns ((e.0.1, e.1) ∷ rows_of text_cmp c es) (rows_of text_cmp c es))))
    go false more = more
    go true more = inner (is_standing (moves_from by) e.1) more
        ∙ sym (moved_count by (joined c t.recipients t.holds e.0.1 e.1)
        (moves_of by (whole c t es)))

pub count_same : (c : List ℕ) (by : Move) (t : Tables) →
    length (standing_serials c (moves_from by) t) ≡ length (moves_of by (read_tables c t).messages)
count_same c by t = same_length (λ (e : Key × Row). e.0.1) _
    ∙ count_rows c by t (entries t.messages)

-- ---- and they change no count

module _ (f : Key → Row → Row) (keeps : (k : Key) (r : Row) → (f k r).size ≡ r.size) where
  changed : List (Key × Row) → List (Key × Row)
  changed es = map (λ (e : Key × Row). (e.0, f e.0 e.1)) es

  sizes_same : (d : List ℕ) (es : List (Key × Row)) →
      map (λ (e : ℕ × Row). e.1.size) (rows_of text_cmp d (changed es)) ≡ map
      (λ (e : ℕ × Row). e.1.size) (rows_of text_cmp d es)
  unfolding changed
  sizes_same d [] = refl
  sizes_same d (e ∷ es) = go (eq_by_cmp text_cmp d e.0.0) (sizes_same d es)
    where
      go : (b : Bool) → map (λ (x : ℕ × Row). x.1.size) (rows_of text_cmp d (changed es)) ≡ map
          (λ (x : ℕ × Row). x.1.size) (rows_of text_cmp d es) →
          map (λ (x : ℕ × Row). x.1.size) (cond b
          ((e.0.1, f e.0 e.1) ∷ rows_of text_cmp d (changed es))
          (rows_of text_cmp d (changed es))) ≡ map (λ (x : ℕ × Row). x.1.size)
          (cond b ((e.0.1, e.1) ∷ rows_of text_cmp d es) (rows_of text_cmp d es))
      go true more = λ i. keeps e.0 e.1 i ∷ more i
      go false more = more

  pub kept_same : (d : List ℕ) (t : Tables) →
      kept_in d (record t { messages = map_values f t.messages }) ≡ kept_in d t
  unfolding changed
  kept_same d t = kept_of_sizes (rows_of text_cmp d (entries (map_values f t.messages)))
      (rows_of text_cmp d (entries t.messages))
      (ap (λ es. map (λ (e : ℕ × Row). e.1.size) (rows_of text_cmp d es))
      (entries-map_values message_cmp f t.messages) ∙ sizes_same d (entries t.messages))
    where
      size : ℕ × Row → ℕ
      size e = e.1.size

      kept_of_sizes : (xs ys : List (ℕ × Row)) → map (λ (e : ℕ × Row). e.1.size) xs ≡ map
          (λ (e : ℕ × Row). e.1.size) ys → kept_of (λ (e : ℕ × Row). e.1.size) xs
          (rows_of text_cmp d (entries t.lines)) ≡ kept_of (λ (e : ℕ × Row). e.1.size) ys
          (rows_of text_cmp d (entries t.lines))
      kept_of_sizes xs ys e = λ i. record {
        messages = (sym (same_length (λ (x : ℕ × Row). x.1.size) xs) ∙ ap length e
            ∙ same_length (λ (x : ℕ × Row). x.1.size) ys) i;
        bytes = (sym (same_sum (λ (x : ℕ × Row). x.1.size) (λ n. n) xs) ∙ ap (sum_by (λ n. n)) e
            ∙ same_sum (λ (x : ℕ × Row). x.1.size) (λ n. n) ys) i;
        lines = length (rows_of text_cmp d (entries t.lines));
      }

set_keeps : (by : Move) (c : List ℕ) (k : Key) (r : Row) → (set_row by c k r).size ≡ r.size
set_keeps Hold c k r = go (eq_by_cmp text_cmp c k.0 && is_standing false r)
  where
    go : (b : Bool) → (cond b (held_row r) r).size ≡ r.size
    go true = refl
    go false = refl
set_keeps (Release at) c k r = go (eq_by_cmp text_cmp c k.0 && is_standing true r)
  where
    go : (b : Bool) → (cond b (released_row at r) r).size ≡ r.size
    go true = refl
    go false = refl

pub counts_moved : (c : List ℕ) (by : Move) (t : Tables) → AreCounted t →
    AreCounted (set_moved c by t)
counts_moved c Hold t h d = h d ∙ sym (kept_same (set_row Hold c) (set_keeps Hold c) d t)
counts_moved c (Release at) t h d = h d
    ∙ sym (kept_same (set_row (Release at) c) (set_keeps (Release at) c) d t)
