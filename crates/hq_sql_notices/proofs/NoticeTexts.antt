-- What the texts of the statements on notices mean, computed from the texts and the schema.
use Rattle.std.proofs.Common.{ℕ, List, [], ◌∷◌, codes, refl}
use Rattle.sqlite.specs.declared.types.Value.TheVariants.{Null}
use Rattle.sqlite.specs.Collation.TheVariants.{Binary}
use Rattle.sqlite_value.specs.Keys.{ascending}
use Rattle.sqlite.specs.Term.{Term, lit, col, op2}
use Rattle.sqlite_sql.specs.declared.ops.BinaryOp.TheVariants.{Compare}
use Rattle.sqlite_sql.specs.declared.ops.CompareOp.TheVariants.{Gt, Lt}
use Rattle.sqlite.specs.Query.{Query}
use Rattle.sqlite.specs.Command.TheVariants.{Insert, Delete}
use Rattle.sqlite.specs.Source.TheVariants.{Values}
use Rattle.sqlite_tied.specs.Compute.{everything}
use Rattle.sqlite.specs.Listing.{understood}
use Rattle.hq_keyed.proofs.Known.{Asks, Orders}
use Rattle.hq_keyed.proofs.Select.{query_of}
use Rattle.hq_schema.specs.Schema.{desk_schema}
use Rattle.hq_sql.proofs.Texts.{at}

abbrev pub notice_key : List Term
notice_key = at 1 0 ∷ at 2 1 ∷ []

-- all columns but the rowid
abbrev pub notice_columns : List Term
notice_columns = col 1 1 ∷ col 1 2 ∷ col 1 3 ∷ col 1 4 ∷ col 1 5 ∷ col 1 6 ∷ col 1 7 ∷ col 1 8 ∷ []

abbrev pub notice_names : List (List ℕ)
notice_names = codes "customer" ∷ codes "number" ∷ codes "kind" ∷ codes "serial" ∷ codes "moment"
    ∷ codes "sender" ∷ codes "human" ∷ codes "status" ∷ []

abbrev pub notice_order : Query → Query
notice_order q = record q { order = (col 1 1, ascending Binary) ∷ (col 1 2, ascending Binary) ∷ [] }

abbrev pub notice_read_text : List ℕ
notice_read_text =
    codes
    "SELECT customer, number, kind, serial, moment, sender, human, status FROM notices WHERE customer = ?1 AND number = ?2"

pub notice_read_known : Asks desk_schema notice_read_text (query_of 10 notice_key notice_columns)
    notice_names
unfolding understood everything
notice_read_known = record { is = refl; plain = (refl, refl); unlisted = refl }

abbrev pub notice_inserted : List Term
notice_inserted = lit Null ∷ col 0 0 ∷ col 0 1 ∷ col 0 2 ∷ col 0 3 ∷ col 0 4 ∷ col 0 5 ∷ col 0 6
    ∷ col 0 7 ∷ []

abbrev pub notice_insert_text : List ℕ
notice_insert_text =
    codes
    "INSERT INTO notices (customer, number, kind, serial, moment, sender, human, status) VALUES (?1, ?2, ?3, ?4, ?5, ?6, ?7, ?8)"

pub notice_insert_known : Orders desk_schema notice_insert_text
    (Insert 5 (Values notice_inserted 9))
unfolding understood everything
notice_insert_known = record { is = refl; plain = (refl, refl) }

abbrev pub notice_delete_text : List ℕ
notice_delete_text = codes "DELETE FROM notices WHERE customer = ?1 AND number = ?2"

pub notice_delete_known : Orders desk_schema notice_delete_text (Delete 5
    (record { lets = []; body = query_of 10 notice_key (col 1 0 ∷ []) }))
unfolding understood everything
notice_delete_known = record { is = refl; plain = (refl, refl) }

abbrev pub below_terms : List Term
below_terms = at 1 0 ∷ op2 (Compare Lt Binary) (col 1 2) (col 0 1) ∷ []

abbrev pub below_text : List ℕ
below_text = codes "DELETE FROM notices WHERE customer = ?1 AND number < ?2"

pub below_known : Orders desk_schema below_text (Delete 5
    (record { lets = []; body = query_of 10 below_terms (col 1 0 ∷ []) }))
unfolding understood everything
below_known = record { is = refl; plain = (refl, refl) }

abbrev pub page_terms : List Term
page_terms = at 1 0 ∷ op2 (Compare Gt Binary) (col 1 2) (col 0 1) ∷ []

abbrev pub notice_page_text : List ℕ
notice_page_text =
    codes
    "SELECT customer, number, kind, serial, moment, sender, human, status FROM notices WHERE customer = ?1 AND number > ?2 ORDER BY customer, number LIMIT ?3"

pub notice_page_known : Asks desk_schema notice_page_text
    (record (notice_order (query_of 10 page_terms notice_columns)) { limit = col 0 2 }) notice_names
unfolding understood everything
notice_page_known = record { is = refl; plain = (refl, refl); unlisted = refl }
