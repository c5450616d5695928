-- A move of one message that is made by its row and its reason is what it is by its change.
use Rattle.std.proofs.Common.{◌≡◌, ℕ, Bool, true, false, not, cond, List, [], Option, Some}
use Rattle.std.proofs.Common.{None, refl, sym, ap, ◌∙◌}
use Rattle.std.specs.Prelude.{option_map, is_some}
use Rattle.std.specs.Ordering.{eq_by_cmp}
use Rattle.std.specs.Cmp.{eq_by_cmp_equiv}
use Rattle.std.specs.FinMap.{get, insert, get-insert, same_map}
use Rattle.std.proofs.lemmas.Map.Views.{tells_apart}
use Rattle.hq_kept.specs.Messages.{is_on_hold}
use Rattle.hq_kept.specs.declared.message.Message.{Message}
use Rattle.hq_kept.specs.declared.message.QueueState.TheVariants as state
use Rattle.hq_owned.specs.Owned.{given, map_values}
use Rattle.hq_owned.proofs.Parts.{get-map_values}
use Rattle.hq_tables.proofs.Orders.{message_total, message_exact}
use Rattle.hq_tables.specs.Readings.{read_tables}
use Rattle.hq_tables.specs.Sound.{AreCounted, Sound}
use Rattle.hq_tables.specs.Tables.{Tables, Row, message_cmp, joined, give_reason, write_all}
use Rattle.hq_rules.specs.Queues.{moved_by, put}
use Rattle.hq_rules.specs.declared.call.Move.{Move}
use Rattle.hq_rules.specs.declared.call.Move.TheVariants.{Hold, Release}
use Rattle.hq_values.specs.Words.{customer_hold}
use Rattle.hq_sql_messages.specs.Moves.{held_row, released_row}
use Rattle.hq_sql_changes.specs.OneMoved.{moves_message, one_set_moved}
use Rattle.hq_sql_changes.proofs.AllMoved.{kept_same}
use Rattle.hq_sql_changes.proofs.EachMoved.{Messages, Key, put_kept}

-- ---- a row that is set

module _ (f : Row → Row) (key : Key) where
  abbrev at_key : Key → Row → Row
  at_key k r = cond (eq_by_cmp message_cmp key k) (f r) r

  set_is_put : (rows : Messages) (r : Row) → get rows key ≡ Some r →
      map_values at_key rows ≡ insert rows key (f r)
  set_is_put rows r there = same_map message_total message_exact _ _ (λ q.
      get-map_values message_cmp at_key message_exact rows q
      ∙ go q (eq_by_cmp message_cmp key q) refl
      ∙ ap (λ b. cond b (Some (f r)) (get rows q)) ((eq_by_cmp_equiv message_total).symm key q)
      ∙ sym (get-insert message_total rows key (f r) q))
    where
      same : (o : Option Row) → option_map (λ (x : Row). x) o ≡ o
      same None = refl
      same (Some x) = refl

      go : (q : Key) (b : Bool) → eq_by_cmp message_cmp key q ≡ b →
          option_map (λ (x : Row). cond (eq_by_cmp message_cmp key q) (f x) x) (get rows q) ≡ cond
          (eq_by_cmp message_cmp key q) (Some (f r)) (get rows q)
      go q true e = (λ i. option_map (λ (x : Row). cond (e i) (f x) x) (get rows q))
          ∙ ap (λ (k : Key). option_map f (get rows k)) (sym (tells_apart message_exact key q e))
          ∙ ap (option_map f) there ∙ (λ i. cond (sym e i) (Some (f r)) (get rows q))
      go q false e = (λ i. option_map (λ (x : Row). cond (e i) (f x) x) (get rows q))
          ∙ same (get rows q) ∙ (λ i. cond (sym e i) (Some (f r)) (get rows q))

-- ---- so it is the change

not_moved : Some false ≡ Some true → ⊥
not_moved h = let f = h in cc

nobody : None ≡ Some true → ⊥
nobody h = let f = h in cc

module _ (c : List ℕ) (serial : ℕ) (t : Tables) (sound : Sound t) where
  abbrev whole : Row → Message
  whole r = joined c t.recipients t.holds serial r

  abbrev put_one : Option Message → Tables
  put_one found = write_all c (put found) t

  held_one : (r : Row) → get t.messages (c, serial) ≡ Some r →
      one_set_moved c serial Hold t ≡ put_one
      (Some (record (whole r) { state = state.Hold; reason = customer_hold }))
  held_one r there =
      (λ i. record t {
        messages = set_is_put held_row (c, serial) t.messages r there i;
        holds = give_reason c serial customer_hold t.holds;
      })
      ∙ sym (put_kept c (record (whole r) { state = state.Hold; reason = customer_hold }) r t
      sound.counts sound.recipients.placed there refl refl)

  released_one : (at : ℕ) (r : Row) → get t.messages (c, serial) ≡ Some r →
      one_set_moved c serial (Release at) t ≡ put_one
      (Some (record (whole r) { state = state.Deferred; reason = []; next_try = at }))
  unfolding give_reason
  released_one at r there =
      (λ i. record t {
        messages = set_is_put (released_row at) (c, serial) t.messages r there i;
        holds = give_reason c serial [] t.holds;
      })
      ∙ sym (put_kept c (record (whole r) { state = state.Deferred; reason = []; next_try = at }) r
      t sound.counts sound.recipients.placed there refl refl)

  moved_one : (by : Move) (r : Row) → get t.messages (c, serial) ≡ Some r →
      Some (is_some (moved_by by (whole r))) ≡ Some true →
      one_set_moved c serial by t ≡ put_one (moved_by by (whole r))
  moved_one Hold r there = go (is_on_hold r.state)
      (record (whole r) { state = state.Hold; reason = customer_hold }) (held_one r there)
    where
      go : (b : Bool) (n : Message) → one_set_moved c serial Hold t ≡ put_one (Some n) →
          Some (is_some (cond b None (Some n))) ≡ Some true →
          one_set_moved c serial Hold t ≡ put_one (cond b None (Some n))
      go true n e applies = absurd (not_moved applies)
      go false n e applies = e
  moved_one (Release at) r there = go (is_on_hold r.state)
      (record (whole r) { state = state.Deferred; reason = []; next_try = at })
      (released_one at r there)
    where
      go : (b : Bool) (n : Message) → one_set_moved c serial (Release at) t ≡ put_one (Some n) →
          Some (is_some (cond b (Some n) None)) ≡ Some true →
          one_set_moved c serial (Release at) t ≡ put_one (cond b (Some n) None)
      go true n e applies = e
      go false n e applies = absurd (not_moved applies)

  -- what the set makes is what the change of the move makes
  pub one_as_put : (by : Move) → moves_message c serial by t ≡ Some true →
      one_set_moved c serial by t ≡ write_all c
      (given [] (λ (m : Message). put (moved_by by m)) ((read_tables c t).message serial)) t
  one_as_put by applies = go (get t.messages (c, serial)) refl applies
    where
      go : (o : Option Row) → get t.messages (c, serial) ≡ o →
          option_map (λ (m : Message). is_some (moved_by by m)) (option_map whole o) ≡ Some true →
          one_set_moved c serial by t ≡ write_all c
          (given [] (λ (m : Message). put (moved_by by m)) (option_map whole o)) t
      go None e applies = absurd (nobody applies)
      go (Some r) e applies = moved_one by r e applies

-- ---- and it changes no count

set_keeps : (f : Row → Row) (key k : Key) (r : Row) → (f r).size ≡ r.size →
    (at_key f key k r).size ≡ r.size
set_keeps f key k r same = go (eq_by_cmp message_cmp key k)
  where
    go : (b : Bool) → (cond b (f r) r).size ≡ r.size
    go true = same
    go false = refl

pub counts_one_moved : (c : List ℕ) (serial : ℕ) (by : Move) (t : Tables) → AreCounted t →
    AreCounted (one_set_moved c serial by t)
counts_one_moved c serial Hold t h d = h d ∙ sym (kept_same (at_key held_row (c, serial))
    (λ k r. set_keeps held_row (c, serial) k r refl) d t)
counts_one_moved c serial (Release at) t h d = h d
    ∙ sym (kept_same (at_key (released_row at) (c, serial))
    (λ k r. set_keeps (released_row at) (c, serial) k r refl) d t)
