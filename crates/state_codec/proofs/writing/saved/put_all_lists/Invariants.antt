use Rattle.std.proofs.Common.{◌≡◌, ◌++◌, vec_capacity}
use Rattle.std.specs.List.{AllByRecursion, flat_map}
use Rattle.state_codec.specs.Appended.{IsShortList}
use Rattle.state_codec.specs.Spelling.{playlist_bytes}
use Rattle.state_codec.proofs.writing.saved.put_all_lists.Given as goal

abbrev pub invariant-loop-name : goal.invariant-loop-name
invariant-loop-name l = (l.out.items ++ flat_map playlist_bytes l.name-iterator ≡ l.fn.out.items ++ flat_map playlist_bytes l.lists)
    × ((vec_capacity l.out ≡ vec_capacity l.fn.out) × AllByRecursion IsShortList l.name-iterator)
