use Rattle.live_stage.proofs.GivenLaws.{history_profile}
use Rattle.live_stage.proofs.laws.history_keeps_the_profile.Goals as goal

pub returns : goal.returns
returns c = history_profile c.ops_rebuild_the_state.ensures
