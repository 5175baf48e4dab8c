use Rattle.std.proofs.Common.{◌≡◌, ◌+◌, ◌<◌, None}
use Rattle.machine_core.specs.ListMoves.{of_lists}
use Rattle.machine_core.specs.ListMovesLeft.{all_edited, moves_of}
use Rattle.machine_core.specs.Meaning.{refusal_of_all}
use Rattle.machine_core.proofs.commands.lists.moving.move_songs.Given as goal

-- the songs that are left may move, and with them all have
abbrev pub invariant-moves : goal.invariant-moves
invariant-moves l = record {
  few : (l.left.from + l.left.count < 4294967296) × (l.left.to + l.left.count < 4294967296);
  free : refusal_of_all (of_lists (moves_of l.name l.left)) l.saved ≡ None;
  edited : all_edited (moves_of l.name l.left) l.saved ≡ all_edited (moves_of l.name l.fn.moves) l.initial.saved;
}

abbrev pub decreases-moves : goal.decreases-moves
decreases-moves l = l.left.count
