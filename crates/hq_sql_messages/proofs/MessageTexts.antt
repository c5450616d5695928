-- What the texts of the statements on messages mean, computed from the texts and the schema.
use Rattle.std.proofs.Common.{ℕ, pos, List, [], ◌∷◌, codes, refl}
use Rattle.sqlite.specs.declared.types.Value.TheVariants.{Null, Int}
use Rattle.sqlite.specs.Collation.TheVariants.{Binary}
use Rattle.sqlite_value.specs.Keys.{ascending}
use Rattle.sqlite.specs.Term.{Term, lit, col, op2}
use Rattle.sqlite_sql.specs.declared.ops.BinaryOp.TheVariants.{Compare}
use Rattle.sqlite_sql.specs.declared.ops.CompareOp.TheVariants.{Gt, Lt, Le}
use Rattle.sqlite.specs.Query.{Query}
use Rattle.sqlite.specs.Command.TheVariants.{Insert, Update, Delete}
use Rattle.sqlite.specs.Source.TheVariants.{Values}
use Rattle.sqlite_tied.specs.Compute.{everything}
use Rattle.sqlite.specs.Listing.{understood}
use Rattle.hq_keyed.proofs.Known.{Asks, Orders}
use Rattle.hq_keyed.proofs.Select.{query_of}
use Rattle.hq_schema.specs.Schema.{desk_schema}
use Rattle.hq_sql.proofs.Texts.{at}

abbrev pub message_key : List Term
message_key = at 1 0 ∷ at 2 1 ∷ []

-- all columns but the rowid
abbrev pub message_columns : List Term
message_columns = col 1 1 ∷ col 1 2 ∷ col 1 3 ∷ col 1 4 ∷ col 1 5 ∷ col 1 6 ∷ col 1 7 ∷ col 1 8
    ∷ col 1 9 ∷ col 1 10 ∷ []

abbrev pub message_names : List (List ℕ)
message_names = codes "customer" ∷ codes "serial" ∷ codes "sender" ∷ codes "spool" ∷ codes "size"
    ∷ codes "arrival" ∷ codes "state" ∷ codes "next_try" ∷ codes "attempts" ∷ codes "warned" ∷ []

abbrev pub message_order : Query → Query
message_order q = record q {
  order = (col 1 1, ascending Binary) ∷ (col 1 2, ascending Binary)
      ∷ [];
}

abbrev pub message_read_text : List ℕ
message_read_text =
    codes
    "SELECT customer, serial, sender, spool, size, arrival, state, next_try, attempts, warned FROM messages WHERE customer = ?1 AND serial = ?2"

pub message_read_known : Asks desk_schema message_read_text (query_of 3 message_key message_columns)
    message_names
unfolding understood everything
message_read_known = record { is = refl; plain = (refl, refl); unlisted = refl }

-- the rowid, and then the row as it is to be: the columns of the key stay
abbrev pub message_updated : List Term
message_updated = col 1 0 ∷ col 1 0 ∷ col 1 1 ∷ col 1 2 ∷ col 0 2 ∷ col 0 3 ∷ col 0 4 ∷ col 0 5
    ∷ col 0 6 ∷ col 0 7 ∷ col 0 8 ∷ col 0 9 ∷ []

abbrev pub message_update_text : List ℕ
message_update_text =
    codes
    "UPDATE messages SET sender = ?3, spool = ?4, size = ?5, arrival = ?6, state = ?7, next_try = ?8, attempts = ?9, warned = ?10 WHERE customer = ?1 AND serial = ?2"

pub message_update_known : Orders desk_schema message_update_text
    (Update 2 (record { lets = []; body = query_of 3 message_key message_updated }))
unfolding understood everything
message_update_known = record { is = refl; plain = (refl, refl) }

-- and where the message has a size
abbrev pub sized_key : List Term
sized_key = at 1 0 ∷ at 2 1 ∷ at 5 4 ∷ []

abbrev pub sized_update_text : List ℕ
sized_update_text =
    codes
    "UPDATE messages SET sender = ?3, spool = ?4, size = ?5, arrival = ?6, state = ?7, next_try = ?8, attempts = ?9, warned = ?10 WHERE customer = ?1 AND serial = ?2 AND size = ?5"

pub sized_update_known : Orders desk_schema sized_update_text (Update 2
    (record { lets = []; body = query_of 3 sized_key message_updated }))
unfolding understood everything
sized_update_known = record { is = refl; plain = (refl, refl) }

abbrev pub message_inserted : List Term
message_inserted = lit Null ∷ col 0 0 ∷ col 0 1 ∷ col 0 2 ∷ col 0 3 ∷ col 0 4 ∷ col 0 5 ∷ col 0 6
    ∷ col 0 7 ∷ col 0 8 ∷ col 0 9 ∷ []

abbrev pub message_insert_text : List ℕ
message_insert_text =
    codes
    "INSERT INTO messages (customer, serial, sender, spool, size, arrival, state, next_try, attempts, warned) VALUES (?1, ?2, ?3, ?4, ?5, ?6, ?7, ?8, ?9, ?10)"

pub message_insert_known : Orders desk_schema message_insert_text
    (Insert 2 (Values message_inserted 11))
unfolding understood everything
message_insert_known = record { is = refl; plain = (refl, refl) }

abbrev pub message_delete_text : List ℕ
message_delete_text = codes "DELETE FROM messages WHERE customer = ?1 AND serial = ?2"

pub message_delete_known : Orders desk_schema message_delete_text
    (Delete 2 (record { lets = []; body = query_of 3 message_key (col 1 0 ∷ []) }))
unfolding understood everything
message_delete_known = record { is = refl; plain = (refl, refl) }

abbrev pub spool_terms : List Term
spool_terms = at 1 0 ∷ at 4 1 ∷ []

abbrev pub spool_read_text : List ℕ
spool_read_text =
    codes
    "SELECT customer, serial, sender, spool, size, arrival, state, next_try, attempts, warned FROM messages WHERE customer = ?1 AND spool = ?2 ORDER BY customer, serial LIMIT 1"

pub spool_read_known : Asks desk_schema spool_read_text
    (record (message_order (query_of 3 spool_terms message_columns)) { limit = lit (Int (pos 1)) })
    message_names
unfolding understood everything
spool_read_known = record { is = refl; plain = (refl, refl); unlisted = refl }

abbrev pub page_terms : List Term
page_terms = at 1 0 ∷ op2 (Compare Gt Binary) (col 1 2) (col 0 1) ∷ []

abbrev pub message_page_text : List ℕ
message_page_text =
    codes
    "SELECT customer, serial, sender, spool, size, arrival, state, next_try, attempts, warned FROM messages WHERE customer = ?1 AND serial > ?2 ORDER BY customer, serial LIMIT ?3"

pub message_page_known : Asks desk_schema message_page_text
    (record (message_order (query_of 3 page_terms message_columns)) { limit = col 0 2 })
    message_names
unfolding understood everything
message_page_known = record { is = refl; plain = (refl, refl); unlisted = refl }

abbrev pub due_terms : List Term
due_terms = at 1 0 ∷ op2 (Compare Gt Binary) (col 1 2) (col 0 1)
    ∷ op2 (Compare Lt Binary) (col 1 7) (lit (Int (pos 2)))
    ∷ op2 (Compare Le Binary) (col 1 8) (col 0 2) ∷ []

abbrev pub message_due_text : List ℕ
message_due_text =
    codes
    "SELECT customer, serial, sender, spool, size, arrival, state, next_try, attempts, warned FROM messages WHERE customer = ?1 AND serial > ?2 AND state < 2 AND next_try <= ?3 ORDER BY customer, serial LIMIT ?4"

pub message_due_known : Asks desk_schema message_due_text
    (record (message_order (query_of 3 due_terms message_columns)) { limit = col 0 3 })
    message_names
unfolding understood everything
message_due_known = record { is = refl; plain = (refl, refl); unlisted = refl }
