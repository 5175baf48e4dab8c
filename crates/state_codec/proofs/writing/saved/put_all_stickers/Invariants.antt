use Rattle.std.proofs.Common.{◌≡◌, ◌++◌, vec_capacity}
use Rattle.std.specs.List.{AllByRecursion, flat_map}
use Rattle.stickers.specs.Sticker.{flat}
use Rattle.state_codec.specs.Appended.{IsShortSticker}
use Rattle.state_codec.specs.Spelling.{sticker_bytes}
use Rattle.state_codec.proofs.writing.saved.put_all_stickers.Given as goal

abbrev pub invariant-loop-uri : goal.invariant-loop-uri
invariant-loop-uri l = (l.out.items ++ flat_map sticker_bytes (flat l.uri-iterator) ≡ l.fn.out.items ++ flat_map sticker_bytes l.stickers)
    × ((vec_capacity l.out ≡ vec_capacity l.fn.out) × AllByRecursion IsShortSticker (flat l.uri-iterator))
