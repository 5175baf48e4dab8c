use Rattle.live_stage.proofs.GroupLaws.{looks_within}
use Rattle.live_stage.proofs.laws.group_looks_at_most_twice.Goals as goal

pub returns : goal.returns
returns g c = λ old events turns is_refused rest ends. looks_within old events turns is_refused rest ends
