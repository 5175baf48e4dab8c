use Rattle.std.proofs.Common.{◌≡◌, ◌-◌, ◌≤◌, ◌++◌, length, drop}
use Rattle.id3_tags.specs.Unsynchronisation.{resynchronised}
use Rattle.id3_tags.proofs.unsynchronisation.resynchronised.Given as goal

-- what was taken, with the rest, is the whole
abbrev pub invariant-bytes : goal.invariant-bytes
invariant-bytes l = (l.at ≤ length l.bytes) × (l.plain.items ++ resynchronised (drop l.at l.bytes) ≡ resynchronised l.bytes)

abbrev pub decreases-bytes : goal.decreases-bytes
decreases-bytes l = length l.bytes - l.at
