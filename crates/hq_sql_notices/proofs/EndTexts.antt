-- What the texts of the statements on histories mean, computed from the texts and the schema.
use Rattle.std.proofs.Common.{ℕ, List, [], ◌∷◌, codes, refl, true}
use Rattle.sqlite.specs.declared.types.Value.TheVariants.{Null}
use Rattle.sqlite.specs.Collation.TheVariants.{Binary}
use Rattle.sqlite_value.specs.Keys.{ascending}
use Rattle.sqlite.specs.Term.{Term, lit, col, op2}
use Rattle.sqlite_sql.specs.declared.ops.BinaryOp.TheVariants.{Compare}
use Rattle.sqlite_sql.specs.declared.ops.CompareOp.TheVariants.{Gt, Lt, Le}
use Rattle.sqlite.specs.Query.{Query}
use Rattle.sqlite.specs.Command.TheVariants.{Insert, Delete}
use Rattle.sqlite.specs.Source.TheVariants.{Values}
use Rattle.sqlite_tied.specs.Compute.{everything}
use Rattle.sqlite.specs.Listing.{understood}
use Rattle.hq_keyed.proofs.Known.{Asks, Orders}
use Rattle.hq_keyed.proofs.Select.{query_of}
use Rattle.hq_schema.specs.Schema.{desk_schema}
use Rattle.hq_sql.proofs.Texts.{at}

-- all columns but the rowid
abbrev pub end_columns : List Term
end_columns = col 1 1 ∷ col 1 2 ∷ col 1 3 ∷ col 1 4 ∷ col 1 5 ∷ col 1 6 ∷ col 1 7 ∷ col 1 8
    ∷ col 1 9 ∷ []

abbrev pub end_names : List (List ℕ)
end_names = codes "customer" ∷ codes "number" ∷ codes "moment" ∷ codes "serial" ∷ codes "sender"
    ∷ codes "recipient" ∷ codes "fate" ∷ codes "status" ∷ codes "reason" ∷ []

abbrev pub newest_first : Query → Query
newest_first q = record q {
  order = (col 1 1, ascending Binary)
      ∷ (col 1 2, record (ascending Binary) { descending = true }) ∷ [];
}

abbrev pub end_inserted : List Term
end_inserted = lit Null ∷ col 0 0 ∷ col 0 1 ∷ col 0 2 ∷ col 0 3 ∷ col 0 4 ∷ col 0 5 ∷ col 0 6
    ∷ col 0 7 ∷ col 0 8 ∷ []

abbrev pub end_insert_text : List ℕ
end_insert_text =
    codes
    "INSERT INTO ends (customer, number, moment, serial, sender, recipient, fate, status, reason) VALUES (?1, ?2, ?3, ?4, ?5, ?6, ?7, ?8, ?9)"

pub end_insert_known : Orders desk_schema end_insert_text (Insert 8 (Values end_inserted 10))
unfolding understood everything
end_insert_known = record { is = refl; plain = (refl, refl) }

abbrev pub above_terms : List Term
above_terms = at 1 0 ∷ op2 (Compare Gt Binary) (col 1 2) (col 0 1) ∷ []

abbrev pub above_text : List ℕ
above_text = codes "DELETE FROM ends WHERE customer = ?1 AND number > ?2"

pub above_known : Orders desk_schema above_text (Delete 8
    (record { lets = []; body = query_of 16 above_terms (col 1 0 ∷ []) }))
unfolding understood everything
above_known = record { is = refl; plain = (refl, refl) }

abbrev pub to_terms : List Term
to_terms = at 1 0 ∷ op2 (Compare Le Binary) (col 1 2) (col 0 1) ∷ []

abbrev pub to_text : List ℕ
to_text = codes "DELETE FROM ends WHERE customer = ?1 AND number <= ?2"

pub to_known : Orders desk_schema to_text (Delete 8
    (record { lets = []; body = query_of 16 to_terms (col 1 0 ∷ []) }))
unfolding understood everything
to_known = record { is = refl; plain = (refl, refl) }

abbrev pub newest_terms : List Term
newest_terms = at 1 0 ∷ []

abbrev pub newest_text : List ℕ
newest_text =
    codes
    "SELECT customer, number, moment, serial, sender, recipient, fate, status, reason FROM ends WHERE customer = ?1 ORDER BY customer, number DESC LIMIT ?2"

pub newest_known : Asks desk_schema newest_text
    (record (newest_first (query_of 16 newest_terms end_columns)) { limit = col 0 1 }) end_names
unfolding understood everything
newest_known = record { is = refl; plain = (refl, refl); unlisted = refl }

abbrev pub page_terms : List Term
page_terms = at 1 0 ∷ op2 (Compare Lt Binary) (col 1 2) (col 0 1) ∷ []

abbrev pub page_text : List ℕ
page_text =
    codes
    "SELECT customer, number, moment, serial, sender, recipient, fate, status, reason FROM ends WHERE customer = ?1 AND number < ?2 ORDER BY customer, number DESC LIMIT ?3"

pub page_known : Asks desk_schema page_text
    (record (newest_first (query_of 16 page_terms end_columns)) { limit = col 0 2 }) end_names
unfolding understood everything
page_known = record { is = refl; plain = (refl, refl); unlisted = refl }
