use Rattle.machine_core.proofs.KeptLaws.{command_rebuilt}
use Rattle.machine_core.proofs.laws.ops_rebuild_the_state.Goals as goal

pub returns : goal.returns
returns c = command_rebuilt
