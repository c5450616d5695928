-- What the texts of the statements on recipients mean, computed from the texts and the schema.
use Rattle.std.proofs.Common.{ℕ, pos, List, [], ◌∷◌, codes, refl}
use Rattle.sqlite.specs.declared.types.Value.TheVariants.{Null, Int}
use Rattle.sqlite.specs.Collation.TheVariants.{Binary}
use Rattle.sqlite_value.specs.Keys.{ascending}
use Rattle.sqlite.specs.Term.{Term, lit, col, op2}
use Rattle.sqlite_sql.specs.declared.ops.BinaryOp.TheVariants.{Compare, Or}
use Rattle.sqlite_sql.specs.declared.ops.CompareOp.TheVariants.{Gt, Lt}
use Rattle.sqlite.specs.Query.{Query}
use Rattle.sqlite.specs.Command.TheVariants.{Insert, Update, Delete}
use Rattle.sqlite.specs.Source.TheVariants.{Values}
use Rattle.sqlite_tied.specs.Compute.{everything}
use Rattle.sqlite.specs.Listing.{understood}
use Rattle.hq_keyed.proofs.Known.{Asks, Orders}
use Rattle.hq_keyed.proofs.Select.{query_of}
use Rattle.hq_schema.specs.Schema.{desk_schema}
use Rattle.hq_sql.proofs.Texts.{at}

abbrev pub recipient_key : List Term
recipient_key = at 1 0 ∷ at 2 1 ∷ at 3 2 ∷ []

-- all columns but the rowid
abbrev pub recipient_columns : List Term
recipient_columns = col 1 1 ∷ col 1 2 ∷ col 1 3 ∷ col 1 4 ∷ col 1 5 ∷ col 1 6 ∷ []

abbrev pub recipient_names : List (List ℕ)
recipient_names = codes "customer" ∷ codes "serial" ∷ codes "place" ∷ codes "address"
    ∷ codes "status" ∷ codes "reason" ∷ []

abbrev pub recipient_order : Query → Query
recipient_order q = record q {
  order = (col 1 1, ascending Binary) ∷ (col 1 2, ascending Binary)
      ∷ (col 1 3, ascending Binary) ∷ [];
}

-- the rowid, and then the row as it is to be: the columns of the key stay
abbrev pub recipient_updated : List Term
recipient_updated = col 1 0 ∷ col 1 0 ∷ col 1 1 ∷ col 1 2 ∷ col 1 3 ∷ col 0 3 ∷ col 0 4 ∷ col 0 5
    ∷ []

abbrev pub recipient_update_text : List ℕ
recipient_update_text =
    codes
    "UPDATE recipients SET address = ?4, status = ?5, reason = ?6 WHERE customer = ?1 AND serial = ?2 AND place = ?3"

pub recipient_update_known : Orders desk_schema recipient_update_text
    (Update 3 (record { lets = []; body = query_of 6 recipient_key recipient_updated }))
unfolding understood everything
recipient_update_known = record { is = refl; plain = (refl, refl) }

abbrev pub recipient_inserted : List Term
recipient_inserted = lit Null ∷ col 0 0 ∷ col 0 1 ∷ col 0 2 ∷ col 0 3 ∷ col 0 4 ∷ col 0 5 ∷ []

abbrev pub recipient_insert_text : List ℕ
recipient_insert_text =
    codes
    "INSERT INTO recipients (customer, serial, place, address, status, reason) VALUES (?1, ?2, ?3, ?4, ?5, ?6)"

pub recipient_insert_known : Orders desk_schema recipient_insert_text
    (Insert 3 (Values recipient_inserted 7))
unfolding understood everything
recipient_insert_known = record { is = refl; plain = (refl, refl) }

abbrev pub recipients_read_text : List ℕ
recipients_read_text =
    codes
    "SELECT customer, serial, place, address, status, reason FROM recipients WHERE customer = ?1 AND serial = ?2 ORDER BY customer, serial, place"

pub recipients_read_known : Asks desk_schema recipients_read_text
    (recipient_order (query_of 6 (at 1 0 ∷ at 2 1 ∷ []) recipient_columns)) recipient_names
unfolding understood everything
recipients_read_known = record { is = refl; plain = (refl, refl); unlisted = refl }

abbrev pub beside_terms : List Term
beside_terms = at 1 0 ∷ at 2 1 ∷ op2 Or (op2 (Compare Lt Binary) (col 1 3) (lit (Int (pos 1))))
    (op2 (Compare Gt Binary) (col 1 3) (col 0 2)) ∷ []

abbrev pub beside_text : List ℕ
beside_text =
    codes "DELETE FROM recipients WHERE customer = ?1 AND serial = ?2 AND (place < 1 OR place > ?3)"

pub beside_known : Orders desk_schema beside_text (Delete 3
    (record { lets = []; body = query_of 6 beside_terms (col 1 0 ∷ []) }))
unfolding understood everything
beside_known = record { is = refl; plain = (refl, refl) }

-- all recipients of a customer
abbrev pub own_terms : List Term
own_terms = at 1 0 ∷ []

abbrev pub own_text : List ℕ
own_text = codes "DELETE FROM recipients WHERE customer = ?1"

pub own_known : Orders desk_schema own_text (Delete 3
    (record { lets = []; body = query_of 6 own_terms (col 1 0 ∷ []) }))
unfolding understood everything
own_known = record { is = refl; plain = (refl, refl) }
