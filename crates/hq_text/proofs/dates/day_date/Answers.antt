use Rattle.std.proofs.Common.{arith, ◌∙◌, ◌≡◌, pos, ◌+ℤ◌, ◌<◌, FitsSigned, w64}
use Rattle.std.proofs.lemmas.Bool.{false≢true}
use Rattle.std.proofs.lemmas.Int.{to_z-of_z}
use Rattle.jiff.proofs.SpanFacts.{signed_arith, date_add-days, can_add-days}
use Rattle.jiff.specs.Words.{epoch_day, IsEpochDay}
use Rattle.jiff_core.specs.declared.civil.date.Date.{Date}
use Rattle.jiff_core.proofs.StandardFacts.{known_days}
use Rattle.hq_text.proofs.dates.day_date.Goals as goal

start : (d : Date) → d.year ≡ pos 1970 → pos d.month ≡ pos 1 → pos d.day ≡ pos 1 →
    epoch_day d ≡ pos 0
start d y m e =
    let month : d.month ≡ 1 = cc in
    let day : d.day ≡ 1 = cc in
    rw (y, month, day) known_days.0

pub returns : goal.returns
returns c =
    let n : c.from-days.result ≡ pos c.args.days = c.from-days.ensures in
    let lt : c.args.days < 47482 = c.requires in
    let f8 : FitsSigned w64 c.from-days.result = rw n (omega (arith, signed_arith)) in
    let only = simp to_z-of_z at c.days.ensures in
    let first = start c.date.result c.date.ensures.0 c.date.ensures.1 c.date.ensures.2 in
    c.in-Ok.ensures.value ∙ (date_add-days c.date.result c.from-days.result c.days.result only
    ∙ omega (arith, signed_arith))

pub unreachable-requires : goal.unreachable-requires
unreachable-requires c =
    let n : c.from-days.result ≡ pos c.args.days = c.from-days.ensures in
    let lt : c.args.days < 47482 = c.requires in
    let f8 : FitsSigned w64 c.from-days.result = rw n (omega (arith, signed_arith)) in
    let only = simp to_z-of_z at c.days.ensures in
    let first = start c.date.result c.date.ensures.0 c.date.ensures.1 c.date.ensures.2 in
    let day : IsEpochDay (epoch_day c.date.result +ℤ c.from-days.result) =
    (omega (arith, signed_arith), omega (arith, signed_arith)) in
    false≢true (c.in-Err.ensures.succeeds.1
    ((can_add-days c.date.result c.from-days.result c.days.result only).1 day))
