use Rattle.std.proofs.Common.{◌≡◌, ◌+◌, ◌<◌, ◌^◌, length}
use Rattle.std.specs.List.{AllByRecursion, flat_map}
use Rattle.state_codec.specs.Appended.{IsShortList}
use Rattle.state_codec.specs.Spelling.{playlist_bytes}
use Rattle.state_codec.proofs.writing.lengths.lists_len.Given as goal

abbrev pub invariant-loop-name : goal.invariant-loop-name
invariant-loop-name l = (l.len + length (flat_map playlist_bytes l.name-iterator) ≡ length (flat_map playlist_bytes l.lists))
    × ((length (flat_map playlist_bytes l.lists) < 2 ^ 40) × AllByRecursion IsShortList l.name-iterator)
