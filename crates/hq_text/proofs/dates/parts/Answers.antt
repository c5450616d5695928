use Rattle.std.proofs.Common.{◌∙◌, ap, arith, unsigned_abs, FitsSigned, w8, w16}
use Rattle.std.proofs.lemmas.Int.{to_z-of_z}
use Rattle.jiff_core.proofs.SignedLemmas.{signed_arith}
use Rattle.jiff_core.proofs.CalendarLemmas.{days_in_month_bounds}
use Rattle.hq_text.proofs.Days.{parts_of}
use Rattle.hq_text.proofs.dates.parts.Goals as goal

pub returns-clause-year : goal.returns-clause-year
returns-clause-year c =
    let p = parts_of c.args.days c.day_date-date.result (omega (arith, c.requires))
    c.day_date-date.ensures in
    let f : FitsSigned w16 c.year.result =
    omega (arith, signed_arith, c.year.ensures, c.day_date-date.result.year_in) in
    let e = simp to_z-of_z at c.unsigned_abs.ensures.value in
    e ∙ ap unsigned_abs (c.year.ensures ∙ p.0)

pub returns-clause-month : goal.returns-clause-month
returns-clause-month c =
    let p = parts_of c.args.days c.day_date-date.result (omega (arith, c.requires))
    c.day_date-date.ensures in
    let f : FitsSigned w8 c.month.result =
    omega (arith, signed_arith, c.month.ensures, c.day_date-date.result.month_in) in
    let e = simp to_z-of_z at c.unsigned_abs-2.ensures.value in
    e ∙ (ap unsigned_abs c.month.ensures ∙ p.1)

pub returns-clause-day : goal.returns-clause-day
returns-clause-day c =
    let p = parts_of c.args.days c.day_date-date.result (omega (arith, c.requires))
    c.day_date-date.ensures in
    let long = days_in_month_bounds c.day_date-date.result.year c.day_date-date.result.month in
    let f : FitsSigned w8 c.day.result =
    omega (arith, signed_arith, c.day.ensures, c.day_date-date.result.day_in) in
    let e = simp to_z-of_z at c.unsigned_abs-3.ensures.value in
    e ∙ (ap unsigned_abs c.day.ensures ∙ p.2)
