use Rattle.std.proofs.Common.{◌≡◌, map, take}
use Rattle.id3_tags.specs.Strings.{swapped}
use Rattle.id3_tags.proofs.strings.swapped_units.Given as goal

abbrev pub invariant-loop-unit : goal.invariant-loop-unit
invariant-loop-unit l = l.others.items ≡ map swapped (take l.unit-index l.units)
