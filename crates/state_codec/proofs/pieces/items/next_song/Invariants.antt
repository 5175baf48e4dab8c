use Rattle.std.proofs.Common.{◌≡◌, length}
use Rattle.stickers.specs.Sticker.{flat}
use Rattle.state_codec.proofs.pieces.items.next_song.Given as goal

abbrev pub invariant-loop-uri : goal.invariant-loop-uri
invariant-loop-uri l = flat l.songs ≡ flat l.fn.songs

abbrev pub decreases-loop-uri : goal.decreases-loop-uri
decreases-loop-uri l = length l.songs
