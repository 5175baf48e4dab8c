use Rattle.std.proofs.Common.{◌≡◌, ◌++◌, vec_capacity}
use Rattle.std.specs.List.{AllByRecursion, flat_map}
use Rattle.stickers.specs.Sticker.{in_song}
use Rattle.state_codec.specs.Appended.{IsShortSticker}
use Rattle.state_codec.specs.Spelling.{sticker_bytes}
use Rattle.state_codec.proofs.writing.saved.put_song.Given as goal

abbrev pub invariant-loop-name : goal.invariant-loop-name
invariant-loop-name l = (l.out.items ++ flat_map sticker_bytes (in_song (l.uri, l.name-iterator)) ≡ l.fn.out.items
    ++ flat_map sticker_bytes (in_song (l.uri, l.song)))
    × ((vec_capacity l.out ≡ vec_capacity l.fn.out) × AllByRecursion IsShortSticker (in_song (l.uri, l.name-iterator)))
