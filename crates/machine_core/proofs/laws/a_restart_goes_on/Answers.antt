use Rattle.machine_core.proofs.Rounds.Again.{goes_on_as}
use Rattle.machine_core.proofs.laws.a_restart_goes_on.Goals as goal

pub returns : goal.returns
returns c = goes_on_as
