use Rattle.std.proofs.Common.{◌≡◌, Some, None, take, drop, option_map, sym, ap, subst, ◌∙◌, arith}
use Rattle.std.specs.Prelude.{OnOk}
use Rattle.std.proofs.lemmas.List.{take_all}
use Rattle.hq_tables.specs.Readings.{read_tables, after_serial}
use Rattle.hq_tables.specs.Sound.{Sound}
use Rattle.hq_rules.specs.Selections.{is_selected}
use Rattle.hq_reads.specs.Reports.{last_serial, next_serial}
use Rattle.hq_reads.proofs.Found.{goes_on, last_page, enough, no_next, some_next}
use Rattle.hq_reads.proofs.Paged.{messages_rise, behind_page, fewer_behind}
use Rattle.hq_reads.proofs.lists.+add_found.Goals as goal

pub returns-in_default-clause-added : goal.returns-in_default-clause-added
returns-in_default-clause-added g t c = λ clean ours sound few.
    let ms =
    (read_tables c.args.entry.now.name (g.S.Shelf.sight.tables c.args.shelf.now)).messages in
    let xs = after_serial c.args.after ms in
    let p = is_selected (option_map (λ p. p.now) c.args.which) in
    let page : c.in_ok-page.page ≡ take 101 xs = c.in_ok-page.ensures.found clean ours in
    let none : next_serial (take 101 xs) ≡ None =
    sym (c.next_serial-next.ensures ∙ ap next_serial (c.as_slice.ensures ∙ page))
    ∙ c.in_default.is in
    last_page p c.args.found.now.items c.add_selected.new.selected.items c.in_ok-page.page xs
    c.in_ok-add_selected.ensures (page ∙ no_next xs none)

pub returns-then-len-gt-PAGE-clause-added : goal.returns-then-len-gt-PAGE-clause-added
returns-then-len-gt-PAGE-clause-added g t c = λ clean ours sound few.
    let ms =
    (read_tables c.args.entry.now.name (g.S.Shelf.sight.tables c.args.shelf.now)).messages in
    let xs = after_serial c.args.after ms in
    let p = is_selected (option_map (λ p. p.now) c.args.which) in
    let page : c.in_ok-page.page ≡ take 101 xs = c.in_ok-page.ensures.found clean ours in
    let many = c.if-len-gt-PAGE.true in
    let length = c.len.ensures in
    enough p c.args.found.now.items c.add_selected.new.selected.items c.in_ok-page.page xs
    c.in_ok-add_selected.ensures page (omega arith)

pub returns-then-more-eq0-clause-added : goal.returns-then-more-eq0-clause-added
returns-then-more-eq0-clause-added g t c = λ clean ours sound few.
    let ms =
    (read_tables c.args.entry.now.name (g.S.Shelf.sight.tables c.args.shelf.now)).messages in
    let xs = after_serial c.args.after ms in
    let p = is_selected (option_map (λ p. p.now) c.args.which) in
    let none = c.if-more-eq0.true in
    let page = c.in_ok-page.ensures.found clean ours ∙ take_all 101 xs (omega arith) in
    last_page p c.args.found.now.items c.add_selected.new.selected.items c.in_ok-page.page xs
    c.in_ok-add_selected.ensures page

pub returns-clause-added : goal.returns-clause-added
returns-clause-added g t c = λ clean ours sound few.
    let name = c.args.entry.now.name in
    let sight = g.S.Shelf.sight in
    let tables = sight.tables c.args.shelf.now in
    let ms = (read_tables name tables).messages in
    let xs = after_serial c.args.after ms in
    let p = is_selected (option_map (λ p. p.now) c.args.which) in
    let first = c.in_ok-page.ensures in
    let before_it = c.add_found.ensures.kept.quiet clean in
    let same = first.kept.same before_it ours first.kept.tally.1 in
    let page : c.in_ok-page.page ≡ take 101 xs = first.found before_it ours in
    let last : last_serial (take 101 xs) ≡ Some c.in-Some.next =
    some_next (take 101 xs) c.in-Some.next (sym (c.next_serial-next.ensures
    ∙ ap next_serial (c.as_slice.ensures ∙ page)) ∙ c.in-Some.is) in
    let left = after_serial (Some c.in-Some.next)
    (read_tables name (sight.tables c.messages.new.self)).messages in
    let next : left ≡ drop 101 xs =
    ap (λ tables. after_serial (Some c.in-Some.next) (read_tables name tables).messages) same
    ∙ behind_page c.args.after 101 ms c.in-Some.next (messages_rise name tables sound) last in
    let some = c.if-more-eq0.false in
    let fewer = fewer_behind 101 xs left c.args.more (omega arith) next (omega arith) few in
    let rest = c.add_found.ensures.added clean (first.kept.ours before_it ours first.kept.tally.1)
    (subst Sound (sym same) sound) fewer in
    subst (λ ys. OnOk c.add_found.result (take 101 c.add_found.new.found.items ≡ take 101 ys))
    (goes_on p c.args.found.now.items c.add_selected.new.selected.items c.in_ok-page.page xs left
    c.in_ok-add_selected.ensures page next) rest
