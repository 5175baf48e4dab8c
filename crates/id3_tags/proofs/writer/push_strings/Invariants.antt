use Rattle.std.proofs.Common.{◌≡◌, ◌++◌, map, drop}
use Rattle.std.specs.Prelude.{string_bytes}
use Rattle.std.specs.List.{flat_map}
use Rattle.id3_tags.specs.Writing.{terminated}
use Rattle.id3_tags.proofs.writer.push_strings.Given as goal

-- what is written, with the strings that are left, is all
abbrev pub invariant-loop-text : goal.invariant-loop-text
invariant-loop-text l =
    l.bytes.items ++ flat_map terminated (map string_bytes (drop l.text-index l.texts))
    ≡ l.initial.bytes.items ++ flat_map terminated (map string_bytes l.texts)
