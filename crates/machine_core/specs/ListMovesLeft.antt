-- The songs of a block that are still to go, as private functions have them.
use Rattle.std.specs.Prelude.{ℕ, ◌+◌, ◌-◌, List, [], ◌∷◌, if◌then◌else◌}
use Rattle.state_codec.specs.OpsLists.{lists_edited}
use Rattle.state_codec.specs.SavedState.{SavedState}
use Rattle.state_codec.specs.declared.op.list_op.ListOp.{ListOp}
use Rattle.machine_core.specs.ListMoves.{song_moves}
use Rattle.machine_core.specs.declared.commands.lists.moving.SongMoves.{SongMoves}

-- their ops
abbrev pub moves_of : List ℕ → SongMoves → List ListOp
moves_of name moves = song_moves moves.last_first name moves.from moves.to moves.count

-- those behind the first
abbrev pub rest_of : SongMoves → SongMoves
rest_of moves = let step = if moves.last_first then 0 else 1 in record {
  last_first = moves.last_first;
  from = moves.from + step;
  to = moves.to + step;
  count = moves.count - 1;
}

-- the playlists behind ops, with the times of before
abbrev pub all_edited : List ListOp → SavedState → SavedState
all_edited [] s = s
all_edited (op ∷ ops) s = all_edited ops (lists_edited op s)
