-- The days of the calendar that ISO 8601 has for all years, counted from the first of the year 0.
use Rattle.std.specs.Prelude.{ℕ, zero, suc, ◌+◌, ◌-◌, ◌%◌, ◌==◌, ◌&&◌, ◌||◌, not, nat_lt, nat_le, Bool, List, [], ◌∷◌, take, sum}
use Rattle.std.specs.Prelude.{if◌then◌else◌}
use Rattle.filter_expr.specs.declared.calendar.Date.{Date}

-- each fourth year, but of the full centuries each fourth
abbrev pub is_leap : ℕ → Bool
is_leap year = year % 4 == 0 && (not (year % 100 == 0) || year % 400 == 0)

abbrev pub year_length : ℕ → ℕ
year_length year = if is_leap year then 366 else 365

-- the lengths of a year's months
abbrev pub months : ℕ → List ℕ
months year = 31 ∷ (if is_leap year then 29 else 28) ∷ 31 ∷ 30 ∷ 31 ∷ 30 ∷ 31 ∷ 31 ∷ 30 ∷ 31 ∷ 30 ∷ 31 ∷ []

-- how many days went before a year
unfoldable pub days_before : ℕ → ℕ
days_before zero = 0
days_before (suc year) = days_before year + year_length year

-- the day of a date, whose months and days count from 1; a day behind the last of its month is as many days later
unfoldable pub day_of : ℕ → ℕ → ℕ → ℕ
day_of year month day = days_before year + sum (take (month - 1) (months year)) + (day - 1)

-- 1970-01-01
abbrev pub epoch : ℕ
epoch = 719528

-- the latest year, of those up to this one, that has begun on a day
abbrev pub latest_begun : ℕ → ℕ → ℕ
latest_begun zero day = 0
latest_begun (suc year) day = if nat_le (days_before (suc year)) day then suc year else latest_begun year day

-- the year of a day; years have days, so it is no later than the day's number
unfoldable pub year_of : ℕ → ℕ
year_of day = latest_begun day day

-- the month and the day of so many days behind the beginning of months of these lengths, the first of which has this number
abbrev pub month_and_day : ℕ → List ℕ → ℕ → ℕ × ℕ
month_and_day month [] day = (month, day + 1)
month_and_day month (days ∷ more) day = if nat_lt day days then (month, day + 1) else month_and_day (month + 1) more (day - days)

abbrev pub date_in : ℕ → ℕ × ℕ → Date
date_in year behind = record { year = year; month = behind.0; day = behind.1 }

-- the date of a day
unfoldable pub date_of : ℕ → Date
date_of day = date_in (year_of day) (month_and_day 1 (months (year_of day)) (day - days_before (year_of day)))
