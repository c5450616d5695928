use Rattle.std.proofs.Common.{[], subst, sym, ◌∙◌}
use Rattle.hq_rows.specs.Listed.{messages_of, recipients_of, holds_of, lines_of, marks_of}
use Rattle.hq_rows.specs.Listed.{notices_of, ends_of}
use Rattle.hq_rows.specs.Lookups.{AreUnique, AreDealt, AreUniqueLines, AreUniqueNotices}
use Rattle.hq_rows.specs.Lookups.{AreUniqueEnds}
use Rattle.hq_tables.specs.Sound.{AreCounted}
use Rattle.hq_tables.proofs.Empty.{none_counted}
use Rattle.hq_rows.proofs.NoRows.{none_unique, none_dealt, none_unique_lines, none_unique_notices}
use Rattle.hq_rows.proofs.NoRows.{none_unique_ends, no_rows}
use Rattle.hq_lists.specs.Lists.{counts_in, accounts_of}
use Rattle.hq_lists.proofs.Listed.{none_listed}
use Rattle.hq_lists.proofs.list_shelf.ListShelf.new.Goals as goal

pub returns : goal.returns
returns g c = (λ i. record {
  heads = accounts_of (counts_in (c.none-2.ensures.items i) (c.none-5.ensures.items i))
      (c.none.ensures.items i);
  messages = messages_of (c.none-2.ensures.items i);
  recipients = recipients_of (c.none-3.ensures.items i);
  holds = holds_of (c.none-4.ensures.items i);
  lines = lines_of (c.none-5.ensures.items i);
  marks = marks_of (c.none-6.ensures.items i);
  notices = notices_of (c.none-7.ensures.items i);
  ends = ends_of (c.none-8.ensures.items i);
}) ∙ (λ i. record (no_rows i) { heads = none_listed (counts_in [] []) i })

pub invariant_of-result : goal.invariant_of-result
invariant_of-result g c = (
  (
    subst AreUnique (sym c.none-2.ensures.items) none_unique,
    subst AreDealt (sym c.none-3.ensures.items) none_dealt,
    subst AreUniqueLines (sym c.none-5.ensures.items) none_unique_lines,
    subst AreUniqueNotices (sym c.none-7.ensures.items) none_unique_notices,
    subst AreUniqueEnds (sym c.none-8.ensures.items) none_unique_ends,
  ),
  subst AreCounted (sym (returns g c)) none_counted,
)
