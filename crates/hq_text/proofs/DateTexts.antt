-- Dates are printable, and each is that of one moment alone.
use Rattle.std.proofs.Common.{◌≡◌, ℕ, zero, suc, ◌+◌, ◌-◌, ◌/◌, ◌%◌, ◌^◌, ◌<◌, ◌≤◌, true, pos, List}
use Rattle.std.proofs.Common.{[], ◌∷◌, ◌++◌, length, take, drop, Option, Some, refl, sym, ap, ◌∙◌}
use Rattle.std.proofs.Common.{arith, codes}
use Rattle.std.specs.Prelude.{decimal, slice_index_or, position}
use Rattle.std.specs.Ordering.{nat_cmp, eq_by_cmp}
use Rattle.std.specs.Cmp.Lexicographic.{slice_cmp}
use Rattle.std.proofs.Math.Seq.{take-append_seam, drop-append_seam}
use Rattle.std.proofs.lemmas.Fmt.{decimal_digit, decimal_injective}
use Rattle.std.proofs.lemmas.List.{length-append, append_cancel_right}
use Rattle.jiff_core.specs.Calendar.{days_from_civil}
use Rattle.jiff_core.proofs.CalendarLemmas.{days_in_month_bounds}
use Rattle.hq_values.specs.Moments.{last_moment}
use Rattle.hq_rules.specs.Dates.{Civil, civil, weekday_names, weekday_name, month_names, month_name}
use Rattle.hq_rules.specs.Dates.{two, day_text, clock_text, date_text}
use Rattle.hq_text.proofs.Days.{civil_is}
use Rattle.hq_text.proofs.Printed.{is_printed, printed-append, decimal_printed}

-- ---- parts of a text

-- fronts of one length
pub split_left : (a b c d : List ℕ) → length a ≡ length c → a ++ b ≡ c ++ d → (a ≡ c) × (b ≡ d)
split_left a b c d long e = (
  sym (take-append_seam a b) ∙ ap (take (length a)) e ∙ ap (λ n. take n (c ++ d)) long
      ∙ take-append_seam c d,
  sym (drop-append_seam a b) ∙ ap (drop (length a)) e ∙ ap (λ n. drop n (c ++ d)) long
      ∙ drop-append_seam c d,
)

-- ends of one length
pub split_right : (a b c d : List ℕ) → length b ≡ length d → a ++ b ≡ c ++ d → (a ≡ c) × (b ≡ d)
split_right a b c d long e =
    let whole = ap length e in
    let fronts : length a ≡ length c = omega (arith, length-append a b, length-append c d, whole) in
    split_left a b c d fronts e

-- ---- two digits

two_is : (n : ℕ) → n < 100 → two n ≡ (48 + n / 10) ∷ (48 + n % 10) ∷ []
two_is n h =
    let tens : n / 10 < 10 = omega arith in
    let ones : n % 10 < 10 = omega arith in
    ap (λ x. x ++ decimal (n % 10)) (decimal_digit (n / 10) tens)
    ∙ ap (λ x. (48 + n / 10) ∷ x) (decimal_digit (n % 10) ones)

two_long : (n : ℕ) → n < 100 → length (two n) ≡ 2
two_long n h = ap length (two_is n h)

two_printed : (n : ℕ) → n < 100 → is_printed (two n) ≡ true
two_printed n h =
    let tens : n / 10 < 2 ^ 64 = omega arith in
    let ones : n % 10 < 2 ^ 64 = omega arith in
    printed-append (decimal (n / 10)) (decimal (n % 10)) (decimal_printed (n / 10) tens)
    (decimal_printed (n % 10) ones)

heads_same : (a b : ℕ) (xs ys : List ℕ) → ◌≡◌ {A = List ℕ} (a ∷ xs) (b ∷ ys) → (a ≡ b) × (xs ≡ ys)
heads_same a b xs ys e = (cc, cc)

two_determines : (m n : ℕ) → m < 100 → n < 100 → two m ≡ two n → m ≡ n
two_determines m n h k e =
    let digits = heads_same _ _ _ _ (sym (two_is m h) ∙ e ∙ two_is n k) in
    let tens : 48 + m / 10 ≡ 48 + n / 10 = digits.0 in
    let ones : 48 + m % 10 ≡ 48 + n % 10 = (heads_same _ _ _ _ digits.1).0 in
    omega arith

-- ---- the clock

three_long : (a b c : List ℕ) → length a ≡ 2 → length b ≡ 2 → length c ≡ 2 →
    length (a ++ codes ":" ++ b ++ codes ":" ++ c) ≡ 8
three_long a b c x y z = simp length-append (omega arith)

pub clock_long : (s : ℕ) → s < 86400 → length (clock_text s) ≡ 8
unfolding clock_text
clock_long s h = three_long (two (s / 3600)) (two (s / 60 % 60)) (two (s % 60))
    (two_long (s / 3600) (omega arith)) (two_long (s / 60 % 60) (omega arith))
    (two_long (s % 60) (omega arith))

three_printed : (a b c : List ℕ) → is_printed a ≡ true → is_printed b ≡ true → is_printed c ≡ true →
    is_printed (a ++ codes ":" ++ b ++ codes ":" ++ c) ≡ true
three_printed a b c x y z =
    let one = printed-append a (codes ":") x refl in
    let two_parts = printed-append (a ++ codes ":") b one y in
    let three = printed-append (a ++ codes ":" ++ b) (codes ":") two_parts refl in
    printed-append (a ++ codes ":" ++ b ++ codes ":") c three z

pub clock_printed : (s : ℕ) → s < 86400 → is_printed (clock_text s) ≡ true
unfolding clock_text
clock_printed s h = three_printed (two (s / 3600)) (two (s / 60 % 60)) (two (s % 60))
    (two_printed (s / 3600) (omega arith)) (two_printed (s / 60 % 60) (omega arith))
    (two_printed (s % 60) (omega arith))

pub clock_determines : (s t : ℕ) → s < 86400 → t < 86400 → clock_text s ≡ clock_text t → s ≡ t
unfolding clock_text
clock_determines s t h k e =
    let last = split_right (two (s / 3600) ++ codes ":" ++ two (s / 60 % 60) ++ codes ":")
    (two (s % 60)) (two (t / 3600) ++ codes ":" ++ two (t / 60 % 60) ++ codes ":")
    (two (t % 60))
    (two_long (s % 60) (omega arith) ∙ sym (two_long (t % 60) (omega arith))) e in
    let middle = split_right (two (s / 3600) ++ codes ":") (two (s / 60 % 60)) (two (t / 3600)
    ++ codes ":") (two (t / 60 % 60))
    (two_long (s / 60 % 60) (omega arith) ∙ sym (two_long (t / 60 % 60) (omega arith)))
    (append_cancel_right _ _ (codes ":") last.0) in
    let hour = two_determines (s / 3600) (t / 3600) (omega arith) (omega arith)
    (append_cancel_right _ _ (codes ":") middle.0) in
    let minute = two_determines (s / 60 % 60) (t / 60 % 60) (omega arith) (omega arith) middle.1 in
    let second = two_determines (s % 60) (t % 60) (omega arith) (omega arith) last.1 in
    omega arith

-- ---- names

-- a name of a weekday or a month has three letters
pub record IsName (name : List ℕ) : Type 0 where
  pub long : length name ≡ 3
  pub printed : is_printed name ≡ true

weekday_is : (k : ℕ) → k < 7 → IsName (slice_index_or weekday_names k [])
weekday_is zero h = record { long = refl; printed = refl }
weekday_is (suc zero) h = record { long = refl; printed = refl }
weekday_is (suc (suc zero)) h = record { long = refl; printed = refl }
weekday_is (suc (suc (suc zero))) h = record { long = refl; printed = refl }
weekday_is (suc (suc (suc (suc zero)))) h = record { long = refl; printed = refl }
weekday_is (suc (suc (suc (suc (suc zero))))) h = record { long = refl; printed = refl }
weekday_is (suc (suc (suc (suc (suc (suc zero)))))) h = record { long = refl; printed = refl }
weekday_is (suc (suc (suc (suc (suc (suc (suc k))))))) h = absurd (omega arith)

weekday : (days : ℕ) → IsName (weekday_name days)
unfolding weekday_name
weekday days = weekday_is (days % 7) (omega arith)

month_is : (k : ℕ) → k < 12 → IsName (slice_index_or month_names k [])
month_is zero h = record { long = refl; printed = refl }
month_is (suc zero) h = record { long = refl; printed = refl }
month_is (suc (suc zero)) h = record { long = refl; printed = refl }
month_is (suc (suc (suc zero))) h = record { long = refl; printed = refl }
month_is (suc (suc (suc (suc zero)))) h = record { long = refl; printed = refl }
month_is (suc (suc (suc (suc (suc zero))))) h = record { long = refl; printed = refl }
month_is (suc (suc (suc (suc (suc (suc zero)))))) h = record { long = refl; printed = refl }
month_is (suc (suc (suc (suc (suc (suc (suc zero))))))) h = record { long = refl; printed = refl }
month_is (suc (suc (suc (suc (suc (suc (suc (suc zero)))))))) h =
    record { long = refl; printed = refl }
month_is (suc (suc (suc (suc (suc (suc (suc (suc (suc zero))))))))) h =
    record { long = refl; printed = refl }
month_is (suc (suc (suc (suc (suc (suc (suc (suc (suc (suc zero)))))))))) h =
    record { long = refl; printed = refl }
month_is (suc (suc (suc (suc (suc (suc (suc (suc (suc (suc (suc zero))))))))))) h =
    record { long = refl; printed = refl }
month_is (suc (suc (suc (suc (suc (suc (suc (suc (suc (suc (suc (suc k)))))))))))) h =
    absurd (omega arith)

month : (m : ℕ) → 1 ≤ m → m ≤ 12 → IsName (month_name m)
unfolding month_name
month m low high = month_is (m - 1) (omega arith)

-- where a name stands among those of the months
place_of : List ℕ → Option ℕ
place_of name = position (eq_by_cmp (slice_cmp nat_cmp) name) month_names

month_place : (k : ℕ) → k < 12 → place_of (slice_index_or month_names k []) ≡ Some k
unfolding place_of
month_place zero h = refl
month_place (suc zero) h = refl
month_place (suc (suc zero)) h = refl
month_place (suc (suc (suc zero))) h = refl
month_place (suc (suc (suc (suc zero)))) h = refl
month_place (suc (suc (suc (suc (suc zero))))) h = refl
month_place (suc (suc (suc (suc (suc (suc zero)))))) h = refl
month_place (suc (suc (suc (suc (suc (suc (suc zero))))))) h = refl
month_place (suc (suc (suc (suc (suc (suc (suc (suc zero)))))))) h = refl
month_place (suc (suc (suc (suc (suc (suc (suc (suc (suc zero))))))))) h = refl
month_place (suc (suc (suc (suc (suc (suc (suc (suc (suc (suc zero)))))))))) h = refl
month_place (suc (suc (suc (suc (suc (suc (suc (suc (suc (suc (suc zero))))))))))) h = refl
month_place (suc (suc (suc (suc (suc (suc (suc (suc (suc (suc (suc (suc k)))))))))))) h =
    absurd (omega arith)

same_place : (m n : ℕ) → ◌≡◌ {A = Option ℕ} (Some m) (Some n) → m ≡ n
same_place m n e = cc

month_determines : (m n : ℕ) → 1 ≤ m → m ≤ 12 → 1 ≤ n → n ≤ 12 → month_name m ≡ month_name n → m ≡ n
unfolding month_name
month_determines m n low high low' high' e =
    let same = same_place (m - 1) (n - 1) (sym (month_place (m - 1) (omega arith)) ∙ ap place_of e
    ∙ month_place (n - 1) (omega arith)) in
    omega arith

-- ---- days

-- what is known of the day that comes so many days after 1 January 1970
pub record IsShort (c : Civil) : Type 0 where
  pub month_low : 1 ≤ c.month
  pub month_high : c.month ≤ 12
  pub day : c.day < 100
  pub year : c.year < 2 ^ 64

short : (days : ℕ) → days < 100000 → IsShort (civil days)
short days few =
    let is = civil_is days in
    let long = days_in_month_bounds (pos (civil days).year) (civil days).month in
    record {
      month_low = is.month_low;
      month_high = is.month_high;
      day = omega (arith, is.day_high);
      year = omega (arith, is.near);
    }

prefix_long : (weekday day month : List ℕ) → length weekday ≡ 3 → length day ≡ 2 → length month ≡ 3
    → length (weekday ++ codes ", " ++ day ++ codes " " ++ month ++ codes " ") ≡ 12
prefix_long weekday day month x y z = simp length-append (omega arith)

same_number : (m n : ℕ) → pos m ≡ pos n → m ≡ n
same_number m n e = cc

same_day : (m n : ℕ) → (civil m).year ≡ (civil n).year → (civil m).month ≡ (civil n).month →
    (civil m).day ≡ (civil n).day → m ≡ n
same_day m n year month day =
    same_number m n (sym (civil_is m).number ∙ ap
    (λ y. days_from_civil (pos y) (civil m).month (civil m).day) year
    ∙ ap (λ k. days_from_civil (pos (civil n).year) k (civil m).day) month
    ∙ ap (days_from_civil (pos (civil n).year) (civil n).month) day ∙ (civil_is n).number)

pub day_determines : (m n : ℕ) → m < 100000 → n < 100000 → day_text m ≡ day_text n → m ≡ n
unfolding day_text
day_determines m n few few' e =
    let one = short m few in
    let other = short n few' in
    let name = month (civil m).month one.month_low one.month_high in
    let name' = month (civil n).month other.month_low other.month_high in
    let long = two_long (civil m).day one.day in
    let long' = two_long (civil n).day other.day in
    let fronts = split_left (weekday_name m ++ codes ", " ++ two (civil m).day ++ codes " "
    ++ month_name (civil m).month ++ codes " ") (decimal (civil m).year)
    (weekday_name n ++ codes ", " ++ two (civil n).day ++ codes " " ++ month_name (civil n).month
    ++ codes " ") (decimal (civil n).year)
    (prefix_long _ _ _ (weekday m).long long name.long
    ∙ sym (prefix_long _ _ _ (weekday n).long long' name'.long)) e in
    let months = split_right (weekday_name m ++ codes ", " ++ two (civil m).day ++ codes " ")
    (month_name (civil m).month)
    (weekday_name n ++ codes ", " ++ two (civil n).day ++ codes " ") (month_name (civil n).month)
    (name.long ∙ sym name'.long) (append_cancel_right _ _ (codes " ") fronts.0) in
    let days = split_right (weekday_name m ++ codes ", ") (two (civil m).day) (weekday_name n
    ++ codes ", ") (two (civil n).day) (long ∙ sym long')
    (append_cancel_right _ _ (codes " ") months.0) in
    same_day m n (decimal_injective (civil m).year (civil n).year one.year other.year fronts.1)
    (month_determines (civil m).month (civil n).month one.month_low one.month_high other.month_low
    other.month_high months.1)
    (two_determines (civil m).day (civil n).day one.day other.day days.1)

pub day_printed : (days : ℕ) → days < 100000 → is_printed (day_text days) ≡ true
unfolding day_text
day_printed days few =
    let is = short days few in
    let name = month (civil days).month is.month_low is.month_high in
    let one = printed-append (weekday_name days) (codes ", ") (weekday days).printed refl in
    let two_parts = printed-append (weekday_name days ++ codes ", ") (two (civil days).day) one
    (two_printed (civil days).day is.day) in
    let three = printed-append (weekday_name days ++ codes ", " ++ two (civil days).day) (codes " ")
    two_parts refl in
    let four = printed-append (weekday_name days ++ codes ", " ++ two (civil days).day ++ codes " ")
    (month_name (civil days).month) three name.printed in
    let five = printed-append (weekday_name days ++ codes ", " ++ two (civil days).day ++ codes " "
    ++ month_name (civil days).month) (codes " ") four refl in
    printed-append (weekday_name days ++ codes ", " ++ two (civil days).day ++ codes " "
    ++ month_name (civil days).month ++ codes " ") (decimal (civil days).year) five
    (decimal_printed (civil days).year is.year)

-- ---- dates

-- a date is printable
pub date_printed : (at : ℕ) → at ≤ last_moment → is_printed (date_text at) ≡ true
unfolding date_text
date_printed at h =
    let day = printed-append (day_text (at / 86400)) (codes " ")
    (day_printed (at / 86400) (omega arith)) refl in
    let clock = printed-append (day_text (at / 86400) ++ codes " ") (clock_text (at % 86400)) day
    (clock_printed (at % 86400) (omega arith)) in
    printed-append (day_text (at / 86400) ++ codes " " ++ clock_text (at % 86400)) (codes " +0000")
    clock refl

-- a date is that of one moment alone
pub date_determines : (at to : ℕ) → at ≤ last_moment → to ≤ last_moment →
    date_text at ≡ date_text to → at ≡ to
unfolding date_text
date_determines at to h k e =
    let low : at % 86400 < 86400 = omega arith in
    let low' : to % 86400 < 86400 = omega arith in
    let parts = split_right (day_text (at / 86400) ++ codes " ") (clock_text (at % 86400))
    (day_text (to / 86400) ++ codes " ") (clock_text (to % 86400))
    (clock_long (at % 86400) low ∙ sym (clock_long (to % 86400) low'))
    (append_cancel_right _ _ (codes " +0000") e) in
    let day = day_determines (at / 86400) (to / 86400) (omega arith) (omega arith)
    (append_cancel_right _ _ (codes " ") parts.0) in
    let clock = clock_determines (at % 86400) (to % 86400) low low' parts.1 in
    omega arith
