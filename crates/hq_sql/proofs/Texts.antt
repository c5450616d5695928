-- What the texts mean, computed from the texts and the schema.
use Rattle.std.proofs.Common.{ℕ, List, [], ◌∷◌, codes, refl}
use Rattle.sqlite.specs.declared.types.Value.TheVariants.{Null}
use Rattle.sqlite.specs.Collation.TheVariants.{Binary}
use Rattle.sqlite.specs.Term.{Term, lit, col, op2}
use Rattle.sqlite_sql.specs.declared.ops.BinaryOp.TheVariants.{Compare}
use Rattle.sqlite_sql.specs.declared.ops.CompareOp.TheVariants.{Eq, Ge, Le}
use Rattle.sqlite.specs.Command.TheVariants.{Insert, Update}
use Rattle.sqlite.specs.Source.TheVariants.{Values}
use Rattle.sqlite_tied.specs.Compute.{everything}
use Rattle.sqlite.specs.Listing.{understood}
use Rattle.hq_keyed.proofs.Known.{Asks, Orders}
use Rattle.hq_keyed.proofs.Select.{query_of}
use Rattle.hq_schema.specs.Schema.{desk_schema}

-- the term of a column's equality with a parameter
abbrev pub at : ℕ → ℕ → Term
at column param = op2 (Compare Eq Binary) (col 1 column) (col 0 param)

-- from one number to another
abbrev pub between_terms : List Term
between_terms = at 1 0 ∷ op2 (Compare Ge Binary) (col 1 2) (col 0 1)
    ∷ op2 (Compare Le Binary) (col 1 2) (col 0 2) ∷ []

-- ---- heads

abbrev pub head_key : List Term
head_key = at 1 0 ∷ []

-- all columns but the rowid
abbrev pub head_columns : List Term
head_columns = col 1 1 ∷ col 1 2 ∷ col 1 3 ∷ col 1 4 ∷ col 1 5 ∷ col 1 6 ∷ col 1 7 ∷ col 1 8
    ∷ col 1 9 ∷ col 1 10 ∷ col 1 11 ∷ []

abbrev pub head_names : List (List ℕ)
head_names = codes "customer" ∷ codes "next_serial" ∷ codes "next_notice" ∷ codes "accepted"
    ∷ codes "delivered" ∷ codes "failed" ∷ codes "deleted" ∷ codes "expired" ∷ codes "messages"
    ∷ codes "bytes" ∷ codes "lines" ∷ []

abbrev pub head_read_text : List ℕ
head_read_text =
    codes
    "SELECT customer, next_serial, next_notice, accepted, delivered, failed, deleted, expired, messages, bytes, lines FROM heads WHERE customer = ?1"

pub head_read_known : Asks desk_schema head_read_text (query_of 1 head_key head_columns) head_names
unfolding understood everything
head_read_known = record { is = refl; plain = (refl, refl); unlisted = refl }

-- the rowid, and then the row as it is to be: the columns of the key stay
abbrev pub head_updated : List Term
head_updated = col 1 0 ∷ col 1 0 ∷ col 1 1 ∷ col 0 1 ∷ col 0 2 ∷ col 0 3 ∷ col 0 4 ∷ col 0 5
    ∷ col 0 6 ∷ col 0 7 ∷ col 0 8 ∷ col 0 9 ∷ col 0 10 ∷ []

abbrev pub head_update_text : List ℕ
head_update_text =
    codes
    "UPDATE heads SET next_serial = ?2, next_notice = ?3, accepted = ?4, delivered = ?5, failed = ?6, deleted = ?7, expired = ?8, messages = ?9, bytes = ?10, lines = ?11 WHERE customer = ?1"

pub head_update_known : Orders desk_schema head_update_text (Update 1
    (record { lets = []; body = query_of 1 head_key head_updated }))
unfolding understood everything
head_update_known = record { is = refl; plain = (refl, refl) }

abbrev pub head_inserted : List Term
head_inserted = lit Null ∷ col 0 0 ∷ col 0 1 ∷ col 0 2 ∷ col 0 3 ∷ col 0 4 ∷ col 0 5 ∷ col 0 6
    ∷ col 0 7 ∷ col 0 8 ∷ col 0 9 ∷ col 0 10 ∷ []

abbrev pub head_insert_text : List ℕ
head_insert_text =
    codes
    "INSERT INTO heads (customer, next_serial, next_notice, accepted, delivered, failed, deleted, expired, messages, bytes, lines) VALUES (?1, ?2, ?3, ?4, ?5, ?6, ?7, ?8, ?9, ?10, ?11)"

pub head_insert_known : Orders desk_schema head_insert_text (Insert 1 (Values head_inserted 12))
unfolding understood everything
head_insert_known = record { is = refl; plain = (refl, refl) }
