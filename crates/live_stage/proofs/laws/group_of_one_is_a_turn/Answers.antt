use Rattle.live_stage.proofs.PhaseLaws.{one_is_a_turn}
use Rattle.live_stage.proofs.laws.group_of_one_is_a_turn.Goals as goal

pub returns : goal.returns
returns g c = λ old new t. one_is_a_turn old new t
