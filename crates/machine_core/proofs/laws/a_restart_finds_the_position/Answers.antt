use Rattle.machine_core.proofs.Rounds.Again.{finds_position}
use Rattle.machine_core.proofs.laws.a_restart_finds_the_position.Goals as goal

pub returns : goal.returns
returns c = finds_position
