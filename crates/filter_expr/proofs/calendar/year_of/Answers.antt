use Rattle.std.proofs.Common.{◌≡◌, suc, ◌+◌, ap, arith}
use Rattle.filter_expr.specs.Calendar.{days_before}
use Rattle.filter_expr.proofs.Days.{days_least, starts_before, year_is}
use Rattle.filter_expr.proofs.calendar.year_of.Goals as goal

pub years-init : goal.years-init
years-init c = starts_before c.args.day

pub overflow_add-year-in-years : goal.overflow_add-year-in-years
overflow_add-year-in-years c = omega (arith, days_least c.years.year, c.years.invariant)

pub days_before-requires : goal.days_before-requires
days_before-requires c = omega (arith, days_least c.years.year, c.years.invariant)

pub overflow_add-year-in-years-2 : goal.overflow_add-year-in-years-2
overflow_add-year-in-years-2 c = omega (arith, days_least c.years.year, c.years.invariant)

pub years-smaller : goal.years-smaller
years-smaller c = omega (arith, days_least (c.years.year + 1), c.years-test.true, c.days_before.ensures.days)

pub returns-clause-year : goal.returns-clause-year
returns-clause-year c =
    let e : c.years.year + 1 ≡ suc c.years.year = omega arith in
    year_is c.years.year c.args.day c.years.invariant (omega (arith, c.years-test.false, c.days_before.ensures.days, ap days_before e))

pub returns-clause-most : goal.returns-clause-most
returns-clause-most c = omega (arith, days_least c.years.year, c.years.invariant)
