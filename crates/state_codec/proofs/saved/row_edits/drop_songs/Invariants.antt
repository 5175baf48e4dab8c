use Rattle.std.proofs.Common.{◌≡◌, take}
use Rattle.state_codec.specs.OpsRows.{without_songs}
use Rattle.state_codec.proofs.saved.row_edits.drop_songs.Given as goal

abbrev pub invariant-loop-uri : goal.invariant-loop-uri
invariant-loop-uri l = l.stickers ≡ without_songs l.initial.stickers (take l.uri-index l.uris)
