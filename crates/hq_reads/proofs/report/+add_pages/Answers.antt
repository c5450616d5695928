use Rattle.std.proofs.Common.{◌≡◌, ◌++◌, Some, None, take, drop, filter, option_map}
use Rattle.std.proofs.Common.{sym, ap, subst, ◌∙◌, arith}
use Rattle.std.specs.Prelude.{OnOk}
use Rattle.std.proofs.lemmas.List.{take_all}
use Rattle.hq_tables.specs.Readings.{read_tables, after_serial}
use Rattle.hq_tables.specs.Sound.{Sound}
use Rattle.hq_rules.specs.QueueReports.{written}
use Rattle.hq_rules.specs.Selections.{is_selected}
use Rattle.hq_reads.specs.Reports.{last_serial}
use Rattle.hq_reads.proofs.Found.{found_on}
use Rattle.hq_reads.proofs.Paged.{messages_rise, behind_page, no_page, fewer_behind}
use Rattle.hq_reads.proofs.report.+add_pages.Goals as goal

pub returns-clause-added : goal.returns-clause-added
returns-clause-added g t c = λ clean ours sound before e few.
    let name = c.args.entry.now.name in
    let sight = g.S.Shelf.sight in
    let tables = sight.tables c.args.shelf.now in
    let ms = (read_tables name tables).messages in
    let xs = after_serial c.args.after ms in
    let p = is_selected (option_map (λ p. p.now) c.args.which) in
    let first = c.in_ok-page.ensures in
    let before_it = c.add_pages.ensures.kept.quiet clean in
    let same = first.kept.same before_it ours first.kept.tally.1 in
    let page : c.in_ok-page.page ≡ take 100 xs = first.found before_it ours in
    let last : last_serial (take 100 xs) ≡ Some c.in-Some.last =
    sym (c.last_serial-last.ensures ∙ ap last_serial (c.as_slice.ensures ∙ page)) ∙ c.in-Some.is in
    let next : after_serial (Some c.in-Some.last)
    (read_tables name (sight.tables c.messages.new.self)).messages ≡ drop 100 xs =
    ap (λ tables. after_serial (Some c.in-Some.last) (read_tables name tables).messages) same
    ∙ behind_page c.args.after 100 ms c.in-Some.last (messages_rise name tables sound) last in
    let so_far = c.in_ok-add_all.ensures before e ∙ ap (λ ys. written (before ++ ys))
    (c.as_slice-2.ensures ∙ c.in_ok-selected.ensures ∙ ap (filter p) page) in
    let some = c.if-more-eq0.false in
    let fewer = fewer_behind 100 xs _ c.args.more (omega arith) next (omega arith) few in
    let rest = c.add_pages.ensures.added clean (first.kept.ours before_it ours first.kept.tally.1)
    (subst Sound (sym same) sound) (before ++ filter p (take 100 xs)) so_far fewer in
    subst (λ ys. OnOk c.add_pages.result (c.add_pages.new.report ≡ written ys))
    (ap (λ ys. (before ++ filter p (take 100 xs)) ++ filter p ys) next ∙ found_on p 100 before xs)
    rest

pub returns-then-more-eq0-clause-added : goal.returns-then-more-eq0-clause-added
returns-then-more-eq0-clause-added g t c = λ clean ours sound before e few.
    let ms =
    (read_tables c.args.entry.now.name (g.S.Shelf.sight.tables c.args.shelf.now)).messages in
    let xs = after_serial c.args.after ms in
    let p = is_selected (option_map (λ p. p.now) c.args.which) in
    let none = c.if-more-eq0.true in
    let page = c.in_ok-page.ensures.found clean ours ∙ take_all 100 xs (omega arith) in
    c.in_ok-add_all.ensures before e ∙ ap (λ ys. written (before ++ ys))
    (c.as_slice-2.ensures ∙ c.in_ok-selected.ensures ∙ ap (filter p) page)

pub returns-in_default-clause-added : goal.returns-in_default-clause-added
returns-in_default-clause-added g t c = λ clean ours sound before e few.
    let ms =
    (read_tables c.args.entry.now.name (g.S.Shelf.sight.tables c.args.shelf.now)).messages in
    let xs = after_serial c.args.after ms in
    let p = is_selected (option_map (λ p. p.now) c.args.which) in
    let page : c.in_ok-page.page ≡ take 100 xs = c.in_ok-page.ensures.found clean ours in
    let last : last_serial (take 100 xs) ≡ None =
    sym (c.last_serial-last.ensures ∙ ap last_serial (c.as_slice.ensures ∙ page))
    ∙ c.in_default.is in
    let none = no_page 99 xs last in
    c.in_ok-add_all.ensures before e ∙ ap (λ ys. written (before ++ ys))
    (c.as_slice-2.ensures ∙ c.in_ok-selected.ensures
    ∙ ap (filter p) (page ∙ ap (take 100) none ∙ sym none))
