use Rattle.std.proofs.Common.{◌≤◌, ◌-◌}
use Rattle.filter_expr.specs.Calendar.{days_before}
use Rattle.filter_expr.proofs.calendar.year_of.Given as goal

abbrev pub invariant-years : goal.invariant-years
invariant-years l = days_before l.year ≤ l.day

abbrev pub decreases-years : goal.decreases-years
decreases-years l = l.day - l.year
