use Rattle.std.proofs.Common.{◌≡◌, ◌+◌, length}
use Rattle.std.specs.List.{AllByRecursion, flat_map}
use Rattle.stickers.specs.Sticker.{in_song}
use Rattle.state_codec.specs.Appended.{IsShortSticker}
use Rattle.state_codec.specs.Spelling.{sticker_bytes}
use Rattle.state_codec.proofs.writing.lengths.song_len.Given as goal

abbrev pub invariant-loop-name : goal.invariant-loop-name
invariant-loop-name l = (l.len + length (flat_map sticker_bytes (in_song (l.uri, l.name-iterator)))
    ≡ length (flat_map sticker_bytes (in_song (l.uri, l.song))))
    × AllByRecursion IsShortSticker (in_song (l.uri, l.name-iterator))
