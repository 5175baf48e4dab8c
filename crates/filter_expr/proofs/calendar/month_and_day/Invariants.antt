use Rattle.std.proofs.Common.{◌≡◌, ◌<◌, ◌+◌, drop, sum}
use Rattle.filter_expr.specs.Calendar.{months, month_and_day}
use Rattle.filter_expr.proofs.calendar.month_and_day.Given as goal

-- the day is in one of the months that are left
abbrev pub invariant-loop-at : goal.invariant-loop-at
invariant-loop-at l =
    (l.left < sum (drop l.at (months l.year)))
    × (month_and_day (l.at + 1) (drop l.at (months l.year)) l.left ≡ month_and_day 1 (months l.year) l.day)
