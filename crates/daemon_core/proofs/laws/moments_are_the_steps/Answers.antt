use Rattle.daemon_core.proofs.HistoryLaws.{moments_are_the_steps}
use Rattle.daemon_core.proofs.laws.moments_are_the_steps.Goals as goal

pub returns : goal.returns
returns c = moments_are_the_steps
