use Rattle.daemon_core.proofs.StrayLaws.{clock_told}
use Rattle.daemon_core.proofs.laws.a_clock_tells_the_time_alone.Goals as goal

pub returns : goal.returns
returns c = clock_told
