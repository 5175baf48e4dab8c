use Rattle.machine_core.proofs.KeptLaws.{command_none, command_same}
use Rattle.machine_core.proofs.laws.no_op_without_a_change.Goals as goal

pub returns-clause-none : goal.returns-clause-none
returns-clause-none c = command_none

pub returns-clause-same : goal.returns-clause-same
returns-clause-same c = command_same
