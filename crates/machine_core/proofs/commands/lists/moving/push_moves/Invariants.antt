use Rattle.std.proofs.Common.{◌≡◌, ◌+◌, ◌<◌, ◌++◌}
use Rattle.machine_core.specs.ListMoves.{of_lists}
use Rattle.machine_core.specs.ListMovesLeft.{moves_of}
use Rattle.machine_core.proofs.commands.lists.moving.push_moves.Given as goal

-- the ops so far, and those of the songs that are left
abbrev pub invariant-moves : goal.invariant-moves
invariant-moves l = record {
  few : (l.left.from + l.left.count < 4294967296) × (l.left.to + l.left.count < 4294967296);
  ops : l.ops.items ++ of_lists (moves_of l.name l.left) ≡ l.initial.ops.items ++ of_lists (moves_of l.name l.fn.moves);
}

abbrev pub decreases-moves : goal.decreases-moves
decreases-moves l = l.left.count
