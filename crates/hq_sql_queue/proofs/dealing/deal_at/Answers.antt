use Rattle.std.proofs.Common.{◌<◌, length, Some, set, sym, ap, ◌∙◌, arith}
use Rattle.std.proofs.lemmas.Option.{slice_get-get_or}
use Rattle.hq_sql_queue.specs.Dealt.{dealt_one}
use Rattle.hq_sql_queue.proofs.Lists.{set_at_place, at_no_place}
use Rattle.hq_sql_queue.proofs.dealing.deal_at.Goals as goal

pub returns-in_ok-deal_one : goal.returns-in_ok-deal_one
returns-in_ok-deal_one g c =
    let items = c.args.page.now.items in
    let within : c.args.place < length items =
    omega (arith, c.if-place-len.true, c.len.ensures, c.args.page.now.ok.0) in
    let before = c.index_mut.result.now in
    ap (set items c.args.place) c.in_ok-deal_one.ensures
    ∙ set_at_place (dealt_one c.args.serial (g.P.Part.given c.args.row.now)) items c.args.place
    before (slice_get-get_or items c.args.place before within
    ∙ ap Some (sym c.index_mut.ensures.value))

pub returns-else-place-len : goal.returns-else-place-len
returns-else-place-len g c =
    at_no_place (dealt_one c.args.serial (g.P.Part.given c.args.row.now)) c.args.page.now.items
    c.args.place (omega (arith, c.if-place-len.false, c.len.ensures, c.args.page.now.ok.0))
