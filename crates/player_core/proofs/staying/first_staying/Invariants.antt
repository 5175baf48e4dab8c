use Rattle.std.proofs.Common.{◌≡◌, drop}
use Rattle.player_core.specs.Staying.{staying, first_id}
use Rattle.player_core.proofs.staying.first_staying.Given as goal

abbrev pub invariant-loop-at : goal.invariant-loop-at
invariant-loop-at l = first_id (staying l.block l.dropped l.at (drop l.at l.entries))
    ≡ first_id (staying l.block l.dropped l.from (drop l.from l.entries))
