-- What the texts of the statements on holds mean, computed from the texts and the schema.
use Rattle.std.proofs.Common.{ℕ, List, [], ◌∷◌, codes, refl}
use Rattle.sqlite.specs.declared.types.Value.TheVariants.{Null}
use Rattle.sqlite.specs.Collation.TheVariants.{Binary}
use Rattle.sqlite_value.specs.Keys.{ascending}
use Rattle.sqlite.specs.Term.{Term, lit, col}
use Rattle.sqlite.specs.Query.{Query}
use Rattle.sqlite.specs.Command.TheVariants.{Insert, Delete}
use Rattle.sqlite.specs.Source.TheVariants.{Values}
use Rattle.sqlite_tied.specs.Compute.{everything}
use Rattle.sqlite.specs.Listing.{understood}
use Rattle.hq_keyed.proofs.Known.{Asks, Orders}
use Rattle.hq_keyed.proofs.Select.{query_of}
use Rattle.hq_schema.specs.Schema.{desk_schema}
use Rattle.hq_sql.proofs.Texts.{at}

abbrev pub hold_key : List Term
hold_key = at 1 0 ∷ at 2 1 ∷ []

-- all columns but the rowid
abbrev pub hold_columns : List Term
hold_columns = col 1 1 ∷ col 1 2 ∷ col 1 3 ∷ []

abbrev pub hold_names : List (List ℕ)
hold_names = codes "customer" ∷ codes "serial" ∷ codes "hold_reason" ∷ []

abbrev pub hold_order : Query → Query
hold_order q = record q { order = (col 1 1, ascending Binary) ∷ (col 1 2, ascending Binary) ∷ [] }

abbrev pub hold_read_text : List ℕ
hold_read_text =
    codes "SELECT customer, serial, hold_reason FROM holds WHERE customer = ?1 AND serial = ?2"

pub hold_read_known : Asks desk_schema hold_read_text (query_of 14 hold_key hold_columns) hold_names
unfolding understood everything
hold_read_known = record { is = refl; plain = (refl, refl); unlisted = refl }

abbrev pub hold_inserted : List Term
hold_inserted = lit Null ∷ col 0 0 ∷ col 0 1 ∷ col 0 2 ∷ []

abbrev pub hold_insert_text : List ℕ
hold_insert_text = codes "INSERT INTO holds (customer, serial, hold_reason) VALUES (?1, ?2, ?3)"

pub hold_insert_known : Orders desk_schema hold_insert_text (Insert 7 (Values hold_inserted 4))
unfolding understood everything
hold_insert_known = record { is = refl; plain = (refl, refl) }

abbrev pub hold_delete_text : List ℕ
hold_delete_text = codes "DELETE FROM holds WHERE customer = ?1 AND serial = ?2"

pub hold_delete_known : Orders desk_schema hold_delete_text (Delete 7
    (record { lets = []; body = query_of 14 hold_key (col 1 0 ∷ []) }))
unfolding understood everything
hold_delete_known = record { is = refl; plain = (refl, refl) }
