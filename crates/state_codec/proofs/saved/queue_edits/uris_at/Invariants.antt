use Rattle.std.proofs.Common.{◌≡◌, take}
use Rattle.state_codec.specs.OpsSongs.{uris_at}
use Rattle.state_codec.proofs.saved.queue_edits.uris_at.Given as goal

abbrev pub invariant-loop-number : goal.invariant-loop-number
invariant-loop-number l = l.uris.items ≡ uris_at l.rows (take l.number-index l.numbers)
