use Rattle.std.proofs.Common.{◌≡◌, ap}
use Rattle.filter_expr.proofs.Days.{date_is, day_within}
use Rattle.filter_expr.proofs.calendar.date_of.Goals as goal

pub month_and_day-month-requires : goal.month_and_day-month-requires
month_and_day-month-requires c =
    rw c.days_before.ensures.days (day_within c.year_of-year.result c.args.day c.year_of-year.ensures.begun c.year_of-year.ensures.lasts)

pub returns-clause-date : goal.returns-clause-date
returns-clause-date c =
    date_is c.year_of-year.result c.args.day c.month_and_day-month.result c.year_of-year.ensures.year
    (rw c.days_before.ensures.days at c.month_and_day-month.ensures.value)
