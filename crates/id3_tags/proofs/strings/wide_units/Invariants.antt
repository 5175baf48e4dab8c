use Rattle.std.proofs.Common.{◌≡◌, ◌-◌, ◌*◌, ◌≤◌, ◌++◌, length, drop}
use Rattle.id3_tags.specs.Strings.{wide_units}
use Rattle.id3_tags.proofs.strings.wide_units.Given as goal

-- the units so far, with those of the rest, are all
abbrev pub invariant-units : goal.invariant-units
invariant-units l =
    (l.at ≤ length l.bytes)
    × (2 * length l.units.items ≡ l.at)
    × (l.units.items ++ wide_units (drop l.at l.bytes) ≡ wide_units l.bytes)

abbrev pub decreases-units : goal.decreases-units
decreases-units l = length l.bytes - l.at
