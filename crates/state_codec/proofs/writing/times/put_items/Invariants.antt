use Rattle.std.proofs.Common.{◌≡◌, ◌++◌, take, vec_capacity}
use Rattle.std.specs.List.{flat_map}
use Rattle.state_codec.specs.SpellingTimes.{time_bytes}
use Rattle.state_codec.proofs.writing.times.put_items.Given as goal

abbrev pub invariant-loop-time : goal.invariant-loop-time
invariant-loop-time l = (l.out.items ≡ l.fn.out.items ++ flat_map time_bytes (take l.time-index l.times))
    × (vec_capacity l.out ≡ vec_capacity l.fn.out)
