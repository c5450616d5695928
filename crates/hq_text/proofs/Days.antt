-- The day that comes so many days after 1 January 1970 has that day number.
use Rattle.std.proofs.Common.{◌≡◌, ℕ, zero, suc, ◌+◌, ◌*◌, ◌<◌, ◌≤◌, Bool, true, false, cond, pos}
use Rattle.std.proofs.Common.{refl, sym, ap, subst, ◌∙◌, arith, nat_lt}
use Rattle.std.proofs.lemmas.Bool.Decides.{nat_tests}
use Rattle.jiff_core.specs.Calendar.{days_in_month, days_from_civil}
use Rattle.jiff_core.specs.Date.{epoch_day}
use Rattle.jiff_core.specs.declared.civil.date.Date.{Date}
use Rattle.jiff_core.proofs.CalendarLemmas.{days_in_month_bounds}
use Rattle.jiff_core.proofs.DateLemmas.{days_from_civil-day, days_from_civil-next_month}
use Rattle.jiff_core.proofs.DateLemmas.{days_from_civil-next_year, epoch_day_injective}
use Rattle.jiff_core.proofs.StandardFacts.{known_days}
use Rattle.jiff_core.proofs.SignedLemmas.{signed_arith}
use Rattle.hq_rules.specs.Dates.{Civil, next_day, civil}

pub record IsDay (n : ℕ) (c : Civil) : Type 0 where
  pub month_low : 1 ≤ c.month
  pub month_high : c.month ≤ 12
  pub day_low : 1 ≤ c.day
  pub day_high : c.day ≤ days_in_month (pos c.year) c.month
  pub year_low : 1970 ≤ c.year
  pub near : 336 * c.year + 28 * c.month + c.day ≤ n + 661949
  pub number : days_from_civil (pos c.year) c.month c.day ≡ pos n

next_is : (n : ℕ) (c : Civil) → IsDay n c → IsDay (suc n) (next_day c)
next_is n c h = by (nat_lt c.day (days_in_month (pos c.year) c.month)) refl (nat_lt c.month 12) refl
  where
    by : (v : Bool) → nat_lt c.day (days_in_month (pos c.year) c.month) ≡ v → (w : Bool) →
        nat_lt c.month 12 ≡ w
        → IsDay (suc n) (cond v (record { year = c.year; month = c.month; day = c.day + 1 })
        (cond w (record { year = c.year; month = c.month + 1; day = 1 })
        (record { year = c.year + 1; month = 1; day = 1 })))
    by true e w f =
        let lt : c.day < days_in_month (pos c.year) c.month = grind (arith, nat_tests) in
        let long = days_in_month_bounds (pos c.year) c.month in
        record {
          month_low = h.month_low;
          month_high = h.month_high;
          day_low = omega arith;
          day_high = omega arith;
          year_low = h.year_low;
          near = omega (arith, h.near);
          number = omega (
            arith,
            signed_arith,
            days_from_civil-day (pos c.year) c.month c.day (c.day + 1) h.day_low (omega arith),
            h.number,
          );
        }
    by false e true f =
        let lt : c.month < 12 = grind (arith, nat_tests) in
        let ge : days_in_month (pos c.year) c.month ≤ c.day = grind (arith, nat_tests) in
        let last : c.day ≡ days_in_month (pos c.year) c.month = omega (arith, h.day_high) in
        let long = days_in_month_bounds (pos c.year) c.month in
        let next = days_in_month_bounds (pos c.year) (c.month + 1) in
        record {
          month_low = omega arith;
          month_high = omega arith;
          day_low = omega arith;
          day_high = omega arith;
          year_low = h.year_low;
          near = omega (arith, h.near);
          number = omega (
            arith,
            signed_arith,
            days_from_civil-next_month (pos c.year) c.month c.day h.month_low last,
            h.number,
          );
        }
    by false e false f =
        let ge12 : 12 ≤ c.month = grind (arith, nat_tests) in
        let ge : days_in_month (pos c.year) c.month ≤ c.day = grind (arith, nat_tests) in
        let m12 : c.month ≡ 12 = omega (arith, h.month_high) in
        let last : c.day ≡ days_in_month (pos c.year) c.month = omega (arith, h.day_high) in
        let d31 : c.day ≡ 31 = last ∙ ap (days_in_month (pos c.year)) m12 in
        let before : days_from_civil (pos c.year) 12 31 ≡ pos n =
        subst (λ d. days_from_civil (pos c.year) 12 d ≡ pos n) d31
        (subst (λ m. days_from_civil (pos c.year) m c.day ≡ pos n) m12 h.number) in
        record {
          month_low = omega arith;
          month_high = omega arith;
          day_low = omega arith;
          day_high = omega arith;
          year_low = omega (arith, h.year_low);
          near = omega (arith, h.near);
          number = omega (
            arith,
            signed_arith,
            days_from_civil-next_year (pos c.year) (pos (c.year + 1))
                (omega (arith, signed_arith)) (omega (arith, signed_arith)),
            before,
          );
        }

pub civil_is : (n : ℕ) → IsDay n (civil n)
unfolding civil
civil_is zero = record {
  month_low = omega arith;
  month_high = omega arith;
  day_low = omega arith;
  day_high = omega arith;
  year_low = omega arith;
  near = omega arith;
  number = known_days.0;
}
civil_is (suc n) = next_is n (civil n) (civil_is n)

-- the date with that day number is that day
pub parts_of : (n : ℕ) (d : Date) → n < 100000 → epoch_day d ≡ pos n → (d.year ≡ pos (civil n).year)
    × (d.month ≡ (civil n).month) × (d.day ≡ (civil n).day)
parts_of n d lt e =
    let h = civil_is n in
    let low : (civil n).year ≤ 9999 = omega (arith, h.near, h.month_low) in
    let other : Date = record {
      year = pos (civil n).year;
      month = (civil n).month;
      day = (civil n).day;
      year_in = (omega (arith, signed_arith), omega (arith, signed_arith));
      month_in = (h.month_low, h.month_high);
      day_in = (h.day_low, h.day_high);
    } in
    epoch_day_injective d other (e ∙ sym h.number)
