use Rattle.std.proofs.Common.{◌≡◌, ◌≤◌, drop}
use Rattle.indexmap.specs.IndexSet.{spare}
use Rattle.player_core.specs.Player.{left_by}
use Rattle.player_core.proofs.removal.leave_each.Given as goal

abbrev pub invariant-loop-at : goal.invariant-loop-at
invariant-loop-at l = record {
  ids : left_by l.block l.dropped l.at (drop l.at l.entries) l.played.keys ≡ left_by l.block l.dropped 0 l.entries l.initial.played.keys;
  room : spare l.initial.played ≤ spare l.played;
}
