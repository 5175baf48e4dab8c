use Rattle.filter_expr.proofs.Days.{days_closed}
use Rattle.filter_expr.proofs.calendar.days_before.Goals as goal

pub returns-clause-days : goal.returns-clause-days
returns-clause-days c = days_closed c.args.year
