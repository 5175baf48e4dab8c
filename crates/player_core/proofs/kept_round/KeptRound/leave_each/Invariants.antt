use Rattle.std.proofs.Common.{◌≡◌, drop}
use Rattle.player_core.specs.Removal.{without_ids}
use Rattle.player_core.proofs.kept_round.KeptRound.leave_each.Given as goal

-- without those that are left, all of them have left
abbrev pub invariant-loop-id : goal.invariant-loop-id
invariant-loop-id l = without_ids (drop l.id-index l.ids) l.self ≡ without_ids l.ids l.fn.self
