use Rattle.std.proofs.Common.{◌≡◌, drop}
use Rattle.player_core.specs.Player.{left_by}
use Rattle.player_core.specs.Removal.{others}
use Rattle.player_core.proofs.removal.leaving.Given as goal

abbrev pub invariant-loop-at : goal.invariant-loop-at
invariant-loop-at l = left_by l.block l.dropped l.at (drop l.at l.entries) (others l.ids.keys l.played.keys)
    ≡ left_by l.block l.dropped 0 l.entries l.played.keys
