use Rattle.std.proofs.Common.{◌≡◌, min, take}
use Rattle.std.specs.Prelude.{sum_by}
use Rattle.live_stage.specs.Answer.{answer_work}
use Rattle.live_stage.specs.Numbers.{greatest}
use Rattle.live_stage.proofs.due.work_of.Given as goal

abbrev pub invariant-loop-turn : goal.invariant-loop-turn
invariant-loop-turn g l = l.work ≡ min (sum_by answer_work (take l.turn-index l.turns)) greatest
