use Rattle.daemon_core.proofs.LooksLaws.{step_within}
use Rattle.daemon_core.proofs.laws.event_looks_within_the_limit.Goals as goal

pub returns : goal.returns
returns c = step_within
