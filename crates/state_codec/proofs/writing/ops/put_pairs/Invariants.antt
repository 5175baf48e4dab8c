use Rattle.std.proofs.Common.{◌≡◌, ◌++◌, take, vec_capacity}
use Rattle.std.specs.List.{flat_map}
use Rattle.state_codec.specs.SpellingFields.{pair_bytes}
use Rattle.state_codec.proofs.writing.ops.put_pairs.Given as goal

abbrev pub invariant-loop-range : goal.invariant-loop-range
invariant-loop-range l = (l.out.items ≡ l.fn.out.items ++ flat_map pair_bytes (take l.range-index l.ranges))
    × (vec_capacity l.out ≡ vec_capacity l.fn.out)
