-- What the texts of the statements on the parts of a page of messages mean, computed from the texts
-- and the schema.
use Rattle.std.proofs.Common.{ℕ, List, codes, refl}
use Rattle.sqlite_tied.specs.Compute.{everything}
use Rattle.sqlite.specs.Listing.{understood}
use Rattle.hq_keyed.proofs.Known.{Asks}
use Rattle.hq_keyed.proofs.Select.{query_of}
use Rattle.hq_schema.specs.Schema.{desk_schema}
use Rattle.hq_sql.proofs.Texts.{between_terms}
use Rattle.hq_sql_messages.proofs.HoldTexts.{hold_columns, hold_names, hold_order}
use Rattle.hq_sql_recipients.proofs.Texts.{recipient_columns, recipient_names, recipient_order}

abbrev pub recipients_between_text : List ℕ
recipients_between_text =
    codes
    "SELECT customer, serial, place, address, status, reason FROM recipients WHERE customer = ?1 AND serial >= ?2 AND serial <= ?3 ORDER BY customer, serial, place"

pub recipients_between_known : Asks desk_schema recipients_between_text
    (recipient_order (query_of 6 between_terms recipient_columns)) recipient_names
unfolding understood everything
recipients_between_known = record { is = refl; plain = (refl, refl); unlisted = refl }

abbrev pub holds_between_text : List ℕ
holds_between_text =
    codes
    "SELECT customer, serial, hold_reason FROM holds WHERE customer = ?1 AND serial >= ?2 AND serial <= ?3 ORDER BY customer, serial"

pub holds_between_known : Asks desk_schema holds_between_text
    (hold_order (query_of 14 between_terms hold_columns)) hold_names
unfolding understood everything
holds_between_known = record { is = refl; plain = (refl, refl); unlisted = refl }
