use Rattle.std.proofs.Common.{◌++◌, ◌∷◌, [], List, ℕ, ap, ◌∙◌, subst, sym}
use Rattle.hq_kept.specs.declared.notice.Notice.{Notice}
use Rattle.hq_rows.specs.declared.rows.NoticeRow.{NoticeRow}
use Rattle.hq_rows.specs.Listed.{notices_of}
use Rattle.hq_rows.specs.Lookups.{AreUniqueNotices}
use Rattle.hq_lists.proofs.Keys.{notice_put, unique_notice_put}
use Rattle.hq_lists.proofs.notices.put_notice.Goals as goal

abbrev row : List ℕ → Notice → NoticeRow
row customer notice = record { customer = customer; notice = notice }

pub returns-clause-table : goal.returns-clause-table
returns-clause-table g c =
    ap notices_of (c.in_ok-push.ensures.items ∙ (λ i. c.drop_row.ensures i
    ++ row (c.in_ok-copy.ensures i) (c.in_ok-copy-2.ensures i) ∷ []))
    ∙ notice_put c.args.rows.now.items (row c.args.customer.now c.args.notice.now)

pub returns-clause-unique : goal.returns-clause-unique
returns-clause-unique g c u =
    subst AreUniqueNotices (sym (c.in_ok-push.ensures.items ∙ (λ i. c.drop_row.ensures i
    ++ row (c.in_ok-copy.ensures i) (c.in_ok-copy-2.ensures i) ∷ [])))
    (unique_notice_put c.args.rows.now.items (row c.args.customer.now c.args.notice.now) u)
