use Rattle.std.proofs.Common.{◌≡◌, take}
use Rattle.state_codec.specs.OpsLists.{uris_of}
use Rattle.state_codec.proofs.saved.list_edits.songs_of.Given as goal

abbrev pub invariant-loop-at : goal.invariant-loop-at
invariant-loop-at l = l.songs ≡ uris_of (take l.at l.entries)
