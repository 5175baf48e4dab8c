use Rattle.std.proofs.Common.{◌≡◌, ◌*◌, ◌≤◌, length, take}
use Rattle.std.specs.List.{flat_map}
use Rattle.state_codec.specs.SpellingTimes.{time_bytes}
use Rattle.state_codec.proofs.writing.times.items_len.Given as goal

abbrev pub invariant-loop-time : goal.invariant-loop-time
invariant-loop-time l = (l.len ≡ length (flat_map time_bytes (take l.time-index l.times))) × (l.len ≤ 266 * l.time-index)
