use Rattle.std.proofs.Common.{◌≡◌, ◌++◌, length, map, false}
use Rattle.std.specs.Prelude.{string_bytes}
use Rattle.id3_tags.specs.Strings.{texts_by_order, strings_in}
use Rattle.id3_tags.proofs.strings.unit_texts.Given as goal

-- the texts so far, with those of the rest, are all
abbrev pub invariant-strings : goal.invariant-strings
invariant-strings l = map string_bytes l.texts.items ++ texts_by_order l.low_first (strings_in l.rest) ≡ texts_by_order false
    (strings_in l.units)

abbrev pub decreases-strings : goal.decreases-strings
decreases-strings l = length l.rest
