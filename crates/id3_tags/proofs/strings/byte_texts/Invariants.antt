use Rattle.std.proofs.Common.{◌≡◌, ◌++◌, length, map}
use Rattle.std.specs.Prelude.{string_bytes}
use Rattle.id3_tags.specs.Strings.{kept, strings_in}
use Rattle.id3_tags.proofs.strings.byte_texts.Given as goal

-- the texts so far, with those of the rest, are all
abbrev pub invariant-strings : goal.invariant-strings
invariant-strings l = map string_bytes l.texts.items ++ map kept (strings_in l.rest) ≡ map kept (strings_in l.bytes)

abbrev pub decreases-strings : goal.decreases-strings
decreases-strings l = length l.rest
