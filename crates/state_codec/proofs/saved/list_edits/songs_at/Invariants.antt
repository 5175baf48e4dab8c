use Rattle.std.proofs.Common.{◌≡◌, take}
use Rattle.state_codec.specs.OpsSongs.{uris_at}
use Rattle.state_codec.proofs.saved.list_edits.songs_at.Given as goal

abbrev pub invariant-loop-number : goal.invariant-loop-number
invariant-loop-number l = l.songs ≡ uris_at l.rows (take l.number-index l.numbers)
