use Rattle.std.proofs.Common.{◌≡◌, ◌++◌, take, vec_capacity}
use Rattle.std.specs.List.{flat_map}
use Rattle.state_codec.specs.SpellingFields.{u32_bytes}
use Rattle.state_codec.proofs.writing.ops.put_numbers.Given as goal

abbrev pub invariant-loop-number : goal.invariant-loop-number
invariant-loop-number l = (l.out.items ≡ l.fn.out.items ++ flat_map u32_bytes (take l.number-index l.numbers))
    × (vec_capacity l.out ≡ vec_capacity l.fn.out)
