-- What the queries of recipients and of reasons from one serial to another find.
use Rattle.std.proofs.Common.{◌≡◌, ℕ, List, map, filter, refl}
use Rattle.std.specs.FinMap.{entries}
use Rattle.sqlite.specs.Order.{Row}
use Rattle.sqlite.specs.State.{State, Shown}
use Rattle.sqlite_value.proofs.OrderLemmas.{value_cmp-Text}
use Rattle.sqlite_typed.proofs.TestLemmas.{then_key, last_key, then_term, last_term}
use Rattle.hq_keyed.proofs.Terms.{text_is, number_from, number_to, number_order}
use Rattle.hq_owned.specs.Rows.{pairs_of}
use Rattle.hq_rows.specs.Listed.{recipient_key, recipient_value, hold_key, hold_value}
use Rattle.hq_sql.specs.Bound.{between_columns}
use Rattle.hq_sql.specs.Rows.{recipient_shown, hold_shown}
use Rattle.hq_sql.specs.Tables.{IsDesk, tables_in}
use Rattle.hq_sql.proofs.Statements.{lists_entries}
use Rattle.hq_sql_messages.proofs.OnHolds.{holds_table}
use Rattle.hq_sql_recipients.proofs.OnRecipients.{recipients_table}
use Rattle.hq_sql_queue.specs.Parts.{is_between}
use Rattle.hq_sql_queue.proofs.Texts as text

module _ (old new : State) (c : List ℕ) (low high : ℕ) (rows : List Row) (desk : IsDesk old.now)
  where
    pub recipients_shown : Shown text.recipients_between_text (between_columns c low high) old new
        rows → pairs_of recipient_key recipient_value (map recipient_shown rows) ≡ filter
        (is_between (λ (k : ℕ × ℕ). k.0) c low high) (entries (tables_in old.now).recipients)
    recipients_shown =
        lists_entries recipients_table old new desk text.recipients_between_text _ _
        text.recipients_between_known refl refl refl (between_columns c low high) recipient_shown
        (λ k. refl) (is_between (λ (k : ℕ × ℕ). k.0) c low high)
        (λ k. then_term (text_is k.1.customer c)
        (then_term (number_from k.1.serial low) (last_term (number_to k.1.serial high))))
        (λ j k. then_key (value_cmp-Text j.1.customer k.1.customer)
        (then_key (number_order j.1.serial k.1.serial)
        (last_key (number_order j.1.place k.1.place)))) (λ xs. refl) rows

    pub reasons_shown : Shown text.holds_between_text (between_columns c low high) old new rows →
        pairs_of hold_key hold_value (map hold_shown rows) ≡ filter
        (is_between (λ (n : ℕ). n) c low high) (entries (tables_in old.now).holds)
    reasons_shown =
        lists_entries holds_table old new desk text.holds_between_text _ _ text.holds_between_known
        refl refl refl (between_columns c low high) hold_shown (λ k. refl)
        (is_between (λ (n : ℕ). n) c low high)
        (λ k. then_term (text_is k.1.customer c)
        (then_term (number_from k.1.serial low) (last_term (number_to k.1.serial high))))
        (λ j k. then_key (value_cmp-Text j.1.customer k.1.customer)
        (last_key (number_order j.1.serial k.1.serial))) (λ xs. refl) rows
