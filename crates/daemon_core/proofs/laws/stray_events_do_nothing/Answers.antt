use Rattle.daemon_core.proofs.StrayLaws.{stray}
use Rattle.daemon_core.proofs.laws.stray_events_do_nothing.Goals as goal

pub returns : goal.returns
returns c = stray
