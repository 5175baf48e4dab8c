-- The text of a time.
use Rattle.std.specs.Prelude.{ℕ, ◌+◌, ◌/◌, ◌%◌, List, [], ◌∷◌, ◌++◌, codes}
use Rattle.std.specs.Fmt.{decimal}
use Rattle.filter_expr.specs.Calendar.{date_of, epoch}
use Rattle.filter_expr.specs.declared.calendar.Date.{Date}

-- a number below 100
abbrev pub two_digits : ℕ → List ℕ
two_digits number = (48 + number / 10) ∷ (48 + number % 10) ∷ []

-- `YYYY-MM-DD`
abbrev pub date_text : Date → List ℕ
date_text date = decimal date.year ++ (codes "-" ++ (two_digits date.month ++ (codes "-" ++ two_digits date.day)))

-- `hh:mm:ss` of a second of a day
abbrev pub clock_text : ℕ → List ℕ
clock_text second =
    two_digits (second / 3600) ++ (codes ":" ++ (two_digits (second / 60 % 60) ++ (codes ":" ++ two_digits (second % 60))))

-- `YYYY-MM-DDThh:mm:ssZ` of a time in UTC, in seconds since the beginning of 1970
abbrev pub time_text : ℕ → List ℕ
time_text time = date_text (date_of (epoch + time / 86400)) ++ (codes "T" ++ (clock_text (time % 86400) ++ codes "Z"))
