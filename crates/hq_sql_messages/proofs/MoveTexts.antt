-- What the texts of the statements on all messages of a customer mean, computed from the texts and
-- the schema.
use Rattle.std.proofs.Common.{ℕ, pos, List, [], ◌∷◌, codes, refl}
use Rattle.sqlite.specs.declared.types.Value.TheVariants.{Null, Int}
use Rattle.sqlite.specs.Collation.TheVariants.{Binary}
use Rattle.sqlite.specs.Term.{Term, lit, col, op2}
use Rattle.sqlite_sql.specs.declared.ops.BinaryOp.TheVariants.{Compare}
use Rattle.sqlite_sql.specs.declared.ops.CompareOp.TheVariants.{Eq, Lt}
use Rattle.sqlite.specs.Command.TheVariants.{Insert, Update, Delete}
use Rattle.sqlite.specs.Query.{Query}
use Rattle.sqlite.specs.Source.TheVariants as source
use Rattle.sqlite_tied.specs.Compute.{everything}
use Rattle.sqlite.specs.Listing.{understood}
use Rattle.hq_keyed.proofs.Known.{Asks, Orders}
use Rattle.hq_keyed.proofs.Select.{query_of}
use Rattle.hq_schema.specs.Schema.{desk_schema}
use Rattle.hq_sql.proofs.Texts.{at}
use Rattle.hq_sql_messages.proofs.MessageTexts.{message_columns, message_names, message_order}
use Rattle.hq_sql_messages.proofs.MessageTexts.{message_key}

-- the customer's messages that are on hold, and those that are not
abbrev pub held_terms : List Term
held_terms = at 1 0 ∷ op2 (Compare Eq Binary) (col 1 7) (lit (Int (pos 2))) ∷ []

abbrev pub queued_terms : List Term
queued_terms = at 1 0 ∷ op2 (Compare Lt Binary) (col 1 7) (lit (Int (pos 2))) ∷ []

abbrev pub held_text : List ℕ
held_text =
    codes
    "SELECT customer, serial, sender, spool, size, arrival, state, next_try, attempts, warned FROM messages WHERE customer = ?1 AND state = 2 ORDER BY customer, serial"

pub held_known : Asks desk_schema held_text
    (message_order (query_of 3 held_terms message_columns)) message_names
unfolding understood everything
held_known = record { is = refl; plain = (refl, refl); unlisted = refl }

abbrev pub queued_text : List ℕ
queued_text =
    codes
    "SELECT customer, serial, sender, spool, size, arrival, state, next_try, attempts, warned FROM messages WHERE customer = ?1 AND state < 2 ORDER BY customer, serial"

pub queued_known : Asks desk_schema queued_text
    (message_order (query_of 3 queued_terms message_columns)) message_names
unfolding understood everything
queued_known = record { is = refl; plain = (refl, refl); unlisted = refl }

-- the rowid, and then the row as it is to be, of one that is put on hold
abbrev pub hold_row : List Term
hold_row = col 1 0 ∷ col 1 0 ∷ col 1 1 ∷ col 1 2 ∷ col 1 3 ∷ col 1 4 ∷ col 1 5 ∷ col 1 6
    ∷ lit (Int (pos 2)) ∷ col 1 8 ∷ col 1 9 ∷ col 1 10 ∷ []

abbrev pub hold_text : List ℕ
hold_text = codes "UPDATE messages SET state = 2 WHERE customer = ?1 AND state < 2"

pub hold_known : Orders desk_schema hold_text
    (Update 2 (record { lets = []; body = query_of 3 queued_terms hold_row }))
unfolding understood everything
hold_known = record { is = refl; plain = (refl, refl) }

-- and of one that is released
abbrev pub release_row : List Term
release_row = col 1 0 ∷ col 1 0 ∷ col 1 1 ∷ col 1 2 ∷ col 1 3 ∷ col 1 4 ∷ col 1 5 ∷ col 1 6
    ∷ lit (Int (pos 1)) ∷ col 0 1 ∷ col 1 9 ∷ col 1 10 ∷ []

abbrev pub release_text : List ℕ
release_text =
    codes "UPDATE messages SET state = 1, next_try = ?2 WHERE customer = ?1 AND state = 2"

pub release_known : Orders desk_schema release_text
    (Update 2 (record { lets = []; body = query_of 3 held_terms release_row }))
unfolding understood everything
release_known = record { is = refl; plain = (refl, refl) }

-- the customer's rows
abbrev pub own_terms : List Term
own_terms = at 1 0 ∷ []

abbrev pub reasons_text : List ℕ
reasons_text = codes "DELETE FROM holds WHERE customer = ?1"

pub reasons_known : Orders desk_schema reasons_text (Delete 7
    (record { lets = []; body = query_of 14 own_terms (col 1 0 ∷ []) }))
unfolding understood everything
reasons_known = record { is = refl; plain = (refl, refl) }

-- a reason of each that is not on hold: no rowid yet, the key of the message, and the reason
abbrev pub reasoned : List Term
reasoned = lit Null ∷ col 1 1 ∷ col 1 2 ∷ col 0 1 ∷ []

abbrev pub reasoned_query : Query
reasoned_query = record (query_of 3 queued_terms reasoned) {
  collations = Binary ∷ Binary ∷ Binary ∷ Binary ∷ [];
}

abbrev pub reasoned_text : List ℕ
reasoned_text =
    codes
    "INSERT INTO holds (customer, serial, hold_reason) SELECT customer, serial, ?2 FROM messages WHERE customer = ?1 AND state < 2"

pub reasoned_known : Orders desk_schema reasoned_text (Insert 7
    (source.Query (record { lets = []; body = reasoned_query })))
unfolding understood everything
reasoned_known = record { is = refl; plain = (refl, refl) }

-- all messages of the customer
abbrev pub delete_text : List ℕ
delete_text = codes "DELETE FROM messages WHERE customer = ?1"

pub delete_known : Orders desk_schema delete_text (Delete 2
    (record { lets = []; body = query_of 3 own_terms (col 1 0 ∷ []) }))
unfolding understood everything
delete_known = record { is = refl; plain = (refl, refl) }

-- ---- one message

abbrev pub hold_one_text : List ℕ
hold_one_text = codes "UPDATE messages SET state = 2 WHERE customer = ?1 AND serial = ?2"

pub hold_one_known : Orders desk_schema hold_one_text
    (Update 2 (record { lets = []; body = query_of 3 message_key hold_row }))
unfolding understood everything
hold_one_known = record { is = refl; plain = (refl, refl) }

abbrev pub release_one_row : List Term
release_one_row = col 1 0 ∷ col 1 0 ∷ col 1 1 ∷ col 1 2 ∷ col 1 3 ∷ col 1 4 ∷ col 1 5 ∷ col 1 6
    ∷ lit (Int (pos 1)) ∷ col 0 2 ∷ col 1 9 ∷ col 1 10 ∷ []

abbrev pub release_one_text : List ℕ
release_one_text =
    codes "UPDATE messages SET state = 1, next_try = ?3 WHERE customer = ?1 AND serial = ?2"

pub release_one_known : Orders desk_schema release_one_text
    (Update 2 (record { lets = []; body = query_of 3 message_key release_one_row }))
unfolding understood everything
release_one_known = record { is = refl; plain = (refl, refl) }
