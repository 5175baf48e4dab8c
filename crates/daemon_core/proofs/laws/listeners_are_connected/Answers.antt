use Rattle.daemon_core.proofs.ListenerLaws.{connected}
use Rattle.daemon_core.proofs.laws.listeners_are_connected.Goals as goal

pub returns : goal.returns
returns c = connected
