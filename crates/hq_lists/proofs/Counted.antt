-- What a walk over the rows counts is what the tables have of the customer.
use Rattle.std.proofs.Common.{◌≡◌, ℕ, List, filter, None}
use Rattle.std.specs.Prelude.{count_by}
use Rattle.std.specs.List.{sum_by}
use Rattle.hq_kept.specs.declared.account.Counts.{Counts}
use Rattle.hq_tables.specs.Readings.{saturated, counts_told}
use Rattle.hq_rows.specs.declared.rows.LineRow.{LineRow}
use Rattle.hq_rows.specs.declared.rows.MessageRow.{MessageRow}
use Rattle.hq_rows.specs.Lookups.{AreUnique, AreUniqueLines, is_past, is_line_past}
use Rattle.hq_lists.proofs.Counts.{messages_are, bytes_are, lines_are}
use Rattle.hq_lists.specs.Lists.{counts_in}

abbrev walked : List ℕ → List MessageRow → List LineRow → Counts
walked c messages lines = record {
  messages = count_by (is_past c None) messages;
  bytes = saturated (sum_by (λ (r : MessageRow). r.size) (filter (is_past c None) messages));
  lines = count_by (is_line_past c None) lines;
}

pub counts_are : (c : List ℕ) (messages : List MessageRow) (lines : List LineRow) →
    AreUnique messages → AreUniqueLines lines →
    walked c messages lines ≡ counts_told (counts_in messages lines c)
counts_are c messages lines u v = λ i. record {
  messages = messages_are c messages u i;
  bytes = saturated (bytes_are c messages u i);
  lines = lines_are c lines v i;
}
