use Rattle.daemon_core.proofs.KillLaws.{step_ends, step_empties}
use Rattle.daemon_core.proofs.laws.daemon_ends_at_kill.Goals as goal

pub returns-clause-nobody : goal.returns-clause-nobody
returns-clause-nobody c = step_empties

pub returns-clause-kill : goal.returns-clause-kill
returns-clause-kill c = step_ends
