use Rattle.daemon_core.proofs.LeavingLaws.{closed, stay, own}
use Rattle.daemon_core.proofs.laws.closed_clients_are_those_that_leave.Goals as goal

pub returns-clause-closed : goal.returns-clause-closed
returns-clause-closed c = closed

pub returns-clause-stay : goal.returns-clause-stay
returns-clause-stay c = stay

pub returns-clause-own : goal.returns-clause-own
returns-clause-own c = own
