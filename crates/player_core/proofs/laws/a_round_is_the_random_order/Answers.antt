use Rattle.player_core.proofs.Rounds.{plays_in_random_order}
use Rattle.player_core.proofs.laws.a_round_is_the_random_order.Goals as goal

pub returns : goal.returns
returns c = plays_in_random_order
