use Rattle.std.proofs.Common.{◌≡◌, ◌≤◌, ◌*◌, take, sum}
use Rattle.filter_expr.specs.Calendar.{months}
use Rattle.filter_expr.proofs.calendar.days_of_months.Given as goal

abbrev pub invariant-loop-at : goal.invariant-loop-at
invariant-loop-at l = (l.days ≡ sum (take l.at (months l.year))) × (l.days ≤ 31 * l.at)
