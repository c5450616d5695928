-- The date of a moment, as mail has it (RFC 5322, 3.3), in UTC.
use Rattle.std.specs.Prelude.{ℕ, zero, suc, ◌+◌, ◌-◌, ◌/◌, ◌%◌, List, [], ◌∷◌, ◌++◌, pos, nat_lt}
use Rattle.std.specs.Prelude.{if◌then◌else◌, codes, decimal, slice_index_or}
use Rattle.jiff_core.specs.Calendar.{days_in_month}

-- ---- the calendar, day after day

pub record Civil : Type 0 where
  pub year : ℕ
  pub month : ℕ
  pub day : ℕ

-- the day after a day, in the Gregorian calendar
abbrev pub next_day : Civil → Civil
next_day c =
    if nat_lt c.day (days_in_month (pos c.year) c.month) then
    record { year = c.year; month = c.month; day = c.day + 1 } else
    (if nat_lt c.month 12 then record { year = c.year; month = c.month + 1; day = 1 } else
    record { year = c.year + 1; month = 1; day = 1 })

-- the day that comes so many days after 1 January 1970
unfoldable pub civil : ℕ → Civil
civil zero = record { year = 1970; month = 1; day = 1 }
civil (suc n) = next_day (civil n)

-- ---- its text

-- from the weekday of 1 January 1970 on
abbrev pub weekday_names : List (List ℕ)
weekday_names = codes "Thu" ∷ codes "Fri" ∷ codes "Sat" ∷ codes "Sun" ∷ codes "Mon" ∷ codes "Tue"
    ∷ codes "Wed" ∷ []

abbrev pub month_names : List (List ℕ)
month_names = codes "Jan" ∷ codes "Feb" ∷ codes "Mar" ∷ codes "Apr" ∷ codes "May" ∷ codes "Jun"
    ∷ codes "Jul" ∷ codes "Aug" ∷ codes "Sep" ∷ codes "Oct" ∷ codes "Nov" ∷ codes "Dec" ∷ []

unfoldable pub weekday_name : ℕ → List ℕ
weekday_name days = slice_index_or weekday_names (days % 7) []

unfoldable pub month_name : ℕ → List ℕ
month_name month = slice_index_or month_names (month - 1) []

-- a number below 100 in two digits
abbrev pub two : ℕ → List ℕ
two n = decimal (n / 10) ++ decimal (n % 10)

-- as in "Thu, 01 Jan 1970"
unfoldable pub day_text : ℕ → List ℕ
day_text days = weekday_name days ++ codes ", " ++ two (civil days).day ++ codes " "
    ++ month_name (civil days).month ++ codes " " ++ decimal (civil days).year

-- as in "23:59:59"
unfoldable pub clock_text : ℕ → List ℕ
clock_text seconds = two (seconds / 3600) ++ codes ":" ++ two (seconds / 60 % 60) ++ codes ":"
    ++ two (seconds % 60)

-- as in "Thu, 01 Jan 1970 23:59:59 +0000"
unfoldable pub date_text : ℕ → List ℕ
date_text at = day_text (at / 86400) ++ codes " " ++ clock_text (at % 86400) ++ codes " +0000"
