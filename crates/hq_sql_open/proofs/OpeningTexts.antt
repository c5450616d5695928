-- The texts that make the tables of a desk, and those on the version table, computed.
use Rattle.std.proofs.Common.{◌≡◌, pos, List, ℕ, [], ◌∷◌, codes, fold, false, drop, refl, sym, ap}
use Rattle.std.proofs.Common.{◌∙◌, subst}
use Rattle.sqlite.specs.declared.types.Value.TheVariants.{Null, Int}
use Rattle.sqlite.specs.Change.{created}
use Rattle.sqlite.specs.Command.TheVariants.{Insert, Select}
use Rattle.sqlite.specs.Listing.{understood, reads_listing}
use Rattle.sqlite.specs.Schema.{Schema}
use Rattle.sqlite.specs.Source.TheVariants.{Values}
use Rattle.sqlite.specs.Term.{Term, lit, col}
use Rattle.sqlite.specs.Query.{Query}
use Rattle.sqlite_tied.specs.Compute.{everything}
use Rattle.sqlite.proofs.Callers.{IsPlain, command_of}
use Rattle.hq_keyed.proofs.Select.{query_of}
use Rattle.hq_schema.specs.Made.{desk_tables, desk_texts}
use Rattle.hq_schema.specs.Schema.{no_schema, version_alone, desk_schema}
use Rattle.hq_schema.specs.Schema.{version_text, heads_text, messages_text, recipients_text}
use Rattle.hq_schema.specs.Schema.{lines_text, notices_text, marks_text, holds_text, ends_text}
use Rattle.hq_schema.specs.Schema.{version, heads, messages, recipients, lines, notices, marks}
use Rattle.hq_schema.specs.Schema.{holds}
use Rattle.hq_schema.proofs.Texts.{version_defined, heads_defined, messages_defined}
use Rattle.hq_schema.proofs.Texts.{recipients_defined, lines_defined, notices_defined}
use Rattle.hq_schema.proofs.Texts.{marks_defined, holds_defined, ends_defined, version_is_alone}
use Rattle.hq_schema.proofs.Texts.{desk_is_made}
use Rattle.hq_sql_open.specs.Making.{IsCreate, MakeTables}

-- ---- the tables, each in the schema that those before it make

abbrev pub schema_1 : Schema
schema_1 = created no_schema version

abbrev pub schema_2 : Schema
schema_2 = created schema_1 heads

abbrev pub schema_3 : Schema
schema_3 = created schema_2 messages

abbrev pub schema_4 : Schema
schema_4 = created schema_3 recipients

abbrev pub schema_5 : Schema
schema_5 = created schema_4 lines

abbrev pub schema_6 : Schema
schema_6 = created schema_5 notices

abbrev pub schema_7 : Schema
schema_7 = created schema_6 marks

abbrev pub schema_8 : Schema
schema_8 = created schema_7 holds

version_create : IsCreate version_text (understood no_schema version_text)
unfolding understood everything
version_create = (refl, refl, refl, refl)

heads_create : IsCreate heads_text (understood schema_1 heads_text)
unfolding understood everything
heads_create = (refl, refl, refl, refl)

messages_create : IsCreate messages_text (understood schema_2 messages_text)
unfolding understood everything
messages_create = (refl, refl, refl, refl)

recipients_create : IsCreate recipients_text (understood schema_3 recipients_text)
unfolding understood everything
recipients_create = (refl, refl, refl, refl)

lines_create : IsCreate lines_text (understood schema_4 lines_text)
unfolding understood everything
lines_create = (refl, refl, refl, refl)

notices_create : IsCreate notices_text (understood schema_5 notices_text)
unfolding understood everything
notices_create = (refl, refl, refl, refl)

marks_create : IsCreate marks_text (understood schema_6 marks_text)
unfolding understood everything
marks_create = (refl, refl, refl, refl)

holds_create : IsCreate holds_text (understood schema_7 holds_text)
unfolding understood everything
holds_create = (refl, refl, refl, refl)

ends_create : IsCreate ends_text (understood schema_8 ends_text)
unfolding understood everything
ends_create = (refl, refl, refl, refl)

pub others_made : MakeTables schema_1 (drop 1 desk_texts) (drop 1 desk_tables)
others_made = (
  record { defined = heads_defined; is_create = heads_create; uncounted = refl },
  (
    record { defined = messages_defined; is_create = messages_create; uncounted = refl },
    (
      record { defined = recipients_defined; is_create = recipients_create; uncounted = refl },
      (
        record { defined = lines_defined; is_create = lines_create; uncounted = refl },
        (
          record { defined = notices_defined; is_create = notices_create; uncounted = refl },
          (
            record { defined = marks_defined; is_create = marks_create; uncounted = refl },
            (
              record { defined = holds_defined; is_create = holds_create; uncounted = refl },
              (record { defined = ends_defined; is_create = ends_create; uncounted = refl }, tt),
            ),
          ),
        ),
      ),
    ),
  ),
)

pub all_made : MakeTables no_schema desk_texts desk_tables
all_made = (
  record { defined = version_defined; is_create = version_create; uncounted = refl },
  others_made,
)

pub all_whole : fold created no_schema desk_tables ≡ desk_schema
all_whole = desk_is_made

pub others_here : MakeTables version_alone (drop 1 desk_texts) (drop 1 desk_tables)
others_here = subst (λ s. MakeTables s (drop 1 desk_texts) (drop 1 desk_tables)) version_is_alone
    others_made

pub others_whole : fold created version_alone (drop 1 desk_tables) ≡ desk_schema
others_whole = ap (λ s. fold created s (drop 1 desk_tables)) (sym version_is_alone) ∙ desk_is_made

-- ---- the version

abbrev pub stamp_text : List ℕ
stamp_text = codes "INSERT INTO desk_schema (version) VALUES (3)"

abbrev pub stamp_terms : List Term
stamp_terms = lit Null ∷ lit (Int (pos 3)) ∷ []

pub stamp_is : command_of (understood desk_schema stamp_text) ≡ Insert 0 (Values stamp_terms 2)
unfolding understood everything
stamp_is = refl

pub stamp_plain : IsPlain (understood desk_schema stamp_text)
unfolding understood everything
stamp_plain = (refl, refl)

abbrev pub read_text : List ℕ
read_text = codes "SELECT version FROM desk_schema"

abbrev pub read_query : Query
read_query = query_of 0 [] (col 1 1 ∷ [])

pub read_is : command_of (understood desk_schema read_text) ≡ Select
    (record { lets = []; body = read_query }) (codes "version" ∷ [])
unfolding understood everything
read_is = refl

pub read_plain : IsPlain (understood desk_schema read_text)
unfolding understood everything
read_plain = (refl, refl)

pub read_listed : reads_listing desk_schema read_text ≡ false
unfolding understood everything
read_listed = refl

pub alone_is : command_of (understood version_alone read_text) ≡ Select
    (record { lets = []; body = read_query }) (codes "version" ∷ [])
unfolding understood everything
alone_is = refl

pub alone_plain : IsPlain (understood version_alone read_text)
unfolding understood everything
alone_plain = (refl, refl)

pub alone_listed : reads_listing version_alone read_text ≡ false
unfolding understood everything
alone_listed = refl
