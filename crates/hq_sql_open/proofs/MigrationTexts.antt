-- The texts of a migration, computed.
use Rattle.std.proofs.Common.{◌≡◌, pos, List, ℕ, [], ◌∷◌, codes, refl}
use Rattle.sqlite.specs.declared.types.Value.TheVariants.{Null, Int}
use Rattle.sqlite.specs.Collation.TheVariants.{Binary}
use Rattle.sqlite.specs.Command.TheVariants.{Insert, Update}
use Rattle.sqlite.specs.Listing.{understood}
use Rattle.sqlite.specs.Query.{Query}
use Rattle.sqlite.specs.Source.TheVariants as source
use Rattle.sqlite.specs.Term.{Term, lit, col, op2}
use Rattle.sqlite_sql.specs.declared.ops.BinaryOp.TheVariants.{Compare}
use Rattle.sqlite_sql.specs.declared.ops.CompareOp.TheVariants.{Eq}
use Rattle.sqlite_value.specs.Keys.{ascending}
use Rattle.sqlite_tied.specs.Compute.{everything}
use Rattle.sqlite.proofs.Callers.{IsPlain, command_of}
use Rattle.hq_keyed.proofs.Select.{query_of}
use Rattle.hq_schema.specs.Schema.{holds_text, holds, ends_text, ends, first_schema, second_schema}
use Rattle.hq_schema.specs.Schema.{desk_schema}
use Rattle.hq_schema.proofs.Texts.{holds_defined, ends_defined}
use Rattle.hq_sql_open.specs.Making.{IsCreate, MakesTable}

holds_create : IsCreate holds_text (understood first_schema holds_text)
unfolding understood everything
holds_create = (refl, refl, refl, refl)

pub makes_holds : MakesTable first_schema holds_text holds
makes_holds = record { defined = holds_defined; is_create = holds_create; uncounted = refl }

ends_create : IsCreate ends_text (understood second_schema ends_text)
unfolding understood everything
ends_create = (refl, refl, refl, refl)

pub makes_ends : MakesTable second_schema ends_text ends
makes_ends = record { defined = ends_defined; is_create = ends_create; uncounted = refl }

-- ---- the rows of holds

abbrev pub fill_text : List ℕ
fill_text =
    codes
    "INSERT INTO holds (customer, serial, hold_reason) SELECT customer, serial, ?1 FROM messages WHERE state = 2 ORDER BY customer, serial"

abbrev pub held_terms : List Term
held_terms = op2 (Compare Eq Binary) (col 1 7) (lit (Int (pos 2))) ∷ []

-- no rowid yet, the key of the message, and the reason
abbrev pub fill_columns : List Term
fill_columns = lit Null ∷ col 1 1 ∷ col 1 2 ∷ col 0 0 ∷ []

abbrev pub fill_query : Query
fill_query = record (query_of 3 held_terms fill_columns) {
  collations = Binary ∷ Binary ∷ Binary
      ∷ Binary ∷ [];
  order = (col 1 1, ascending Binary) ∷ (col 1 2, ascending Binary) ∷ [];
}

pub fill_is : command_of (understood desk_schema fill_text) ≡ Insert 7
    (source.Query (record { lets = []; body = fill_query }))
unfolding understood everything
fill_is = refl

pub fill_plain : IsPlain (understood desk_schema fill_text)
unfolding understood everything
fill_plain = (refl, refl)

-- ---- the version

abbrev pub version_text : List ℕ
version_text = codes "UPDATE desk_schema SET version = 3"

abbrev pub version_terms : List Term
version_terms = col 1 0 ∷ col 1 0 ∷ lit (Int (pos 3)) ∷ []

pub version_is : command_of (understood desk_schema version_text) ≡ Update 0
    (record { lets = []; body = query_of 0 [] version_terms })
unfolding understood everything
version_is = refl

pub version_plain : IsPlain (understood desk_schema version_text)
unfolding understood everything
version_plain = (refl, refl)
