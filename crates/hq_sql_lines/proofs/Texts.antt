-- What the texts of the statements on lines mean, computed from the texts and the schema.
use Rattle.std.proofs.Common.{ℕ, List, [], ◌∷◌, codes, refl}
use Rattle.sqlite.specs.declared.types.Value.TheVariants.{Null}
use Rattle.sqlite.specs.Collation.TheVariants.{Binary}
use Rattle.sqlite_value.specs.Keys.{ascending}
use Rattle.sqlite.specs.Term.{Term, lit, col, op2}
use Rattle.sqlite_sql.specs.declared.ops.BinaryOp.TheVariants.{Compare, Or, And}
use Rattle.sqlite_sql.specs.declared.ops.CompareOp.TheVariants.{Gt}
use Rattle.sqlite.specs.Query.{Query}
use Rattle.sqlite.specs.Command.TheVariants.{Insert, Update, Delete}
use Rattle.sqlite.specs.Source.TheVariants.{Values}
use Rattle.sqlite_tied.specs.Compute.{everything}
use Rattle.sqlite.specs.Listing.{understood}
use Rattle.hq_keyed.proofs.Known.{Asks, Orders}
use Rattle.hq_keyed.proofs.Select.{query_of}
use Rattle.hq_schema.specs.Schema.{desk_schema}
use Rattle.hq_sql.proofs.Texts.{at}

abbrev pub line_key : List Term
line_key = at 1 0 ∷ at 2 1 ∷ at 3 2 ∷ []

-- all columns but the rowid
abbrev pub line_columns : List Term
line_columns = col 1 1 ∷ col 1 2 ∷ col 1 3 ∷ col 1 4 ∷ []

abbrev pub line_names : List (List ℕ)
line_names = codes "customer" ∷ codes "class" ∷ codes "pattern" ∷ codes "action" ∷ []

abbrev pub line_order : Query → Query
line_order q = record q {
  order = (col 1 1, ascending Binary) ∷ (col 1 2, ascending Binary)
      ∷ (col 1 3, ascending Binary) ∷ [];
}

abbrev pub line_read_text : List ℕ
line_read_text =
    codes
    "SELECT customer, class, pattern, action FROM lines WHERE customer = ?1 AND class = ?2 AND pattern = ?3"

pub line_read_known : Asks desk_schema line_read_text (query_of 8 line_key line_columns) line_names
unfolding understood everything
line_read_known = record { is = refl; plain = (refl, refl); unlisted = refl }

-- the rowid, and then the row as it is to be: the columns of the key stay
abbrev pub line_updated : List Term
line_updated = col 1 0 ∷ col 1 0 ∷ col 1 1 ∷ col 1 2 ∷ col 1 3 ∷ col 0 3 ∷ []

abbrev pub line_update_text : List ℕ
line_update_text =
    codes "UPDATE lines SET action = ?4 WHERE customer = ?1 AND class = ?2 AND pattern = ?3"

pub line_update_known : Orders desk_schema line_update_text (Update 4
    (record { lets = []; body = query_of 8 line_key line_updated }))
unfolding understood everything
line_update_known = record { is = refl; plain = (refl, refl) }

abbrev pub line_inserted : List Term
line_inserted = lit Null ∷ col 0 0 ∷ col 0 1 ∷ col 0 2 ∷ col 0 3 ∷ []

abbrev pub line_insert_text : List ℕ
line_insert_text =
    codes "INSERT INTO lines (customer, class, pattern, action) VALUES (?1, ?2, ?3, ?4)"

pub line_insert_known : Orders desk_schema line_insert_text (Insert 4 (Values line_inserted 5))
unfolding understood everything
line_insert_known = record { is = refl; plain = (refl, refl) }

abbrev pub line_delete_text : List ℕ
line_delete_text = codes "DELETE FROM lines WHERE customer = ?1 AND class = ?2 AND pattern = ?3"

pub line_delete_known : Orders desk_schema line_delete_text (Delete 4
    (record { lets = []; body = query_of 8 line_key (col 1 0 ∷ []) }))
unfolding understood everything
line_delete_known = record { is = refl; plain = (refl, refl) }

abbrev pub lines_from_start_text : List ℕ
lines_from_start_text =
    codes
    "SELECT customer, class, pattern, action FROM lines WHERE customer = ?1 ORDER BY customer, class, pattern LIMIT ?2"

pub lines_from_start_known : Asks desk_schema lines_from_start_text
    (record (line_order (query_of 8 (at 1 0 ∷ []) line_columns)) { limit = col 0 1 }) line_names
unfolding understood everything
lines_from_start_known = record { is = refl; plain = (refl, refl); unlisted = refl }

abbrev pub after_terms : List Term
after_terms = at 1 0 ∷ op2 Or (op2 (Compare Gt Binary) (col 1 2) (col 0 1))
    (op2 And (at 2 1) (op2 (Compare Gt Binary) (col 1 3) (col 0 2))) ∷ []

abbrev pub lines_after_text : List ℕ
lines_after_text =
    codes
    "SELECT customer, class, pattern, action FROM lines WHERE customer = ?1 AND (class > ?2 OR class = ?2 AND pattern > ?3) ORDER BY customer, class, pattern LIMIT ?4"

pub lines_after_known : Asks desk_schema lines_after_text
    (record (line_order (query_of 8 after_terms line_columns)) { limit = col 0 3 }) line_names
unfolding understood everything
lines_after_known = record { is = refl; plain = (refl, refl); unlisted = refl }
