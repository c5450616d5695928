use Rattle.std.proofs.Common.{Some, option_map, ap, ◌∙◌}
use Rattle.hq_kept.specs.declared.notice.Notice.{Notice}
use Rattle.hq_rows.specs.declared.rows.NoticeRow.{NoticeRow}
use Rattle.hq_rows.proofs.Notices.{notice_found}
use Rattle.hq_lists.proofs.notices.notice_in.Goals as goal

pub returns-in_ok-copy-in-Some : goal.returns-in_ok-copy-in-Some
returns-in_ok-copy-in-Some g c = ap (λ (n : Notice). Some n) c.in_ok-copy-in-Some.ensures
    ∙ ap (option_map (λ (r : NoticeRow). r.notice)) c.in-Some.ensures
    ∙ notice_found c.args.rows.now c.args.customer.now c.args.number

pub returns-in-None : goal.returns-in-None
returns-in-None g c = ap (option_map (λ (r : NoticeRow). r.notice)) c.in-None.ensures
    ∙ notice_found c.args.rows.now c.args.customer.now c.args.number
