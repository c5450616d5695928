-- What the texts of the statements on marks mean, computed from the texts and the schema.
use Rattle.std.proofs.Common.{ℕ, List, [], ◌∷◌, codes, refl}
use Rattle.sqlite.specs.declared.types.Value.TheVariants.{Null}
use Rattle.sqlite.specs.Term.{Term, lit, col}
use Rattle.sqlite.specs.Command.TheVariants.{Insert, Delete}
use Rattle.sqlite.specs.Source.TheVariants.{Values}
use Rattle.sqlite_tied.specs.Compute.{everything}
use Rattle.sqlite.specs.Listing.{understood}
use Rattle.hq_keyed.proofs.Known.{Asks, Orders}
use Rattle.hq_keyed.proofs.Select.{query_of}
use Rattle.hq_schema.specs.Schema.{desk_schema}
use Rattle.hq_sql.proofs.Texts.{at}

abbrev pub mark_key : List Term
mark_key = at 1 0 ∷ at 2 1 ∷ []

-- all columns but the rowid
abbrev pub mark_columns : List Term
mark_columns = col 1 1 ∷ col 1 2 ∷ col 1 3 ∷ col 1 4 ∷ col 1 5 ∷ col 1 6 ∷ []

abbrev pub mark_names : List (List ℕ)
mark_names = codes "customer" ∷ codes "label" ∷ codes "digest" ∷ codes "added" ∷ codes "changed"
    ∷ codes "same" ∷ []

abbrev pub mark_read_text : List ℕ
mark_read_text =
    codes
    "SELECT customer, label, digest, added, changed, same FROM marks WHERE customer = ?1 AND label = ?2"

pub mark_read_known : Asks desk_schema mark_read_text (query_of 12 mark_key mark_columns) mark_names
unfolding understood everything
mark_read_known = record { is = refl; plain = (refl, refl); unlisted = refl }

abbrev pub mark_inserted : List Term
mark_inserted = lit Null ∷ col 0 0 ∷ col 0 1 ∷ col 0 2 ∷ col 0 3 ∷ col 0 4 ∷ col 0 5 ∷ []

abbrev pub mark_insert_text : List ℕ
mark_insert_text =
    codes
    "INSERT INTO marks (customer, label, digest, added, changed, same) VALUES (?1, ?2, ?3, ?4, ?5, ?6)"

pub mark_insert_known : Orders desk_schema mark_insert_text (Insert 6 (Values mark_inserted 7))
unfolding understood everything
mark_insert_known = record { is = refl; plain = (refl, refl) }

abbrev pub mark_delete_text : List ℕ
mark_delete_text = codes "DELETE FROM marks WHERE customer = ?1 AND label = ?2"

pub mark_delete_known : Orders desk_schema mark_delete_text (Delete 6
    (record { lets = []; body = query_of 12 mark_key (col 1 0 ∷ []) }))
unfolding understood everything
mark_delete_known = record { is = refl; plain = (refl, refl) }
