-- What the texts define, and what making their tables in turn makes.
use Rattle.std.proofs.Common.{◌≡◌, Ok, refl, ap, ◌∙◌}
use Rattle.sqlite.specs.Change.{created}
use Rattle.sqlite.specs.Compile.{table_defined_by}
use Rattle.sqlite.specs.Listing.{understood}
use Rattle.std.specs.List.{AllZip}
use Rattle.sqlite_tied.specs.Compute.{everything}
use Rattle.hq_schema.specs.Made.{Defines, desk_tables, desk_texts}
use Rattle.hq_schema.specs.Schema.{no_schema, version_alone, first_schema, desk_schema}
use Rattle.hq_schema.specs.Schema.{second_schema, ends_text, ends}
use Rattle.hq_schema.specs.Schema.{version_text, heads_text, messages_text, recipients_text}
use Rattle.hq_schema.specs.Schema.{lines_text, notices_text, marks_text, holds_text}
use Rattle.hq_schema.specs.Schema.{version, heads, messages, recipients, lines, notices, marks}
use Rattle.hq_schema.specs.Schema.{holds}

pub version_defined : table_defined_by version_text ≡ Ok version
unfolding understood everything
version_defined = refl

pub heads_defined : table_defined_by heads_text ≡ Ok heads
unfolding understood everything
heads_defined = refl

pub messages_defined : table_defined_by messages_text ≡ Ok messages
unfolding understood everything
messages_defined = refl

pub recipients_defined : table_defined_by recipients_text ≡ Ok recipients
unfolding understood everything
recipients_defined = refl

pub lines_defined : table_defined_by lines_text ≡ Ok lines
unfolding understood everything
lines_defined = refl

pub notices_defined : table_defined_by notices_text ≡ Ok notices
unfolding understood everything
notices_defined = refl

pub marks_defined : table_defined_by marks_text ≡ Ok marks
unfolding understood everything
marks_defined = refl

pub holds_defined : table_defined_by holds_text ≡ Ok holds
unfolding understood everything
holds_defined = refl

pub ends_defined : table_defined_by ends_text ≡ Ok ends
unfolding understood everything
ends_defined = refl

pub version_is_alone : created no_schema version ≡ version_alone
unfolding understood everything
version_is_alone = refl

pub first_is_made : created (created (created
    (created (created (created (created no_schema version) heads) messages) recipients) lines)
    notices) marks ≡ first_schema
unfolding understood everything
first_is_made = refl

pub holds_made_last : created first_schema holds ≡ second_schema
unfolding understood everything
holds_made_last = refl

pub ends_made_last : created second_schema ends ≡ desk_schema
unfolding understood everything
ends_made_last = refl

pub second_is_made : created (created (created
    (created (created (created (created (created no_schema version) heads) messages) recipients)
    lines) notices) marks) holds ≡ second_schema
second_is_made = ap (λ s. created s holds) first_is_made ∙ holds_made_last

pub desk_is_made : created (created (created (created
    (created (created (created (created (created no_schema version) heads) messages) recipients)
    lines) notices) marks) holds) ends ≡ desk_schema
desk_is_made = ap (λ s. created s ends) second_is_made ∙ ends_made_last

pub texts_defined : AllZip Defines desk_texts desk_tables
texts_defined = (
  version_defined,
  (
    heads_defined,
    (
      messages_defined,
      (
        recipients_defined,
        (
          lines_defined,
          (notices_defined, (marks_defined, (holds_defined, (ends_defined, tt)))),
        ),
      ),
    ),
  ),
)
