use Rattle.live_stage.proofs.RunLaws.{replayed_from_start}
use Rattle.live_stage.proofs.laws.run_from_the_start_is_the_replay.Goals as goal

pub returns : goal.returns
returns c = replayed_from_start
