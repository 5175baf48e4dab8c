use Rattle.std.proofs.Common.{◌≡◌, ◌+◌, ◌<◌, ◌^◌, length}
use Rattle.std.specs.List.{AllByRecursion, flat_map}
use Rattle.stickers.specs.Sticker.{flat}
use Rattle.state_codec.specs.Appended.{IsShortSticker}
use Rattle.state_codec.specs.Spelling.{sticker_bytes}
use Rattle.state_codec.proofs.writing.lengths.stickers_len.Given as goal

abbrev pub invariant-loop-uri : goal.invariant-loop-uri
invariant-loop-uri l = (l.len + length (flat_map sticker_bytes (flat l.uri-iterator)) ≡ length (flat_map sticker_bytes l.stickers))
    × ((length (flat_map sticker_bytes l.stickers) < 2 ^ 40) × AllByRecursion IsShortSticker (flat l.uri-iterator))
