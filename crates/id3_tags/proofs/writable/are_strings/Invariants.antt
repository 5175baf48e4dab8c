use Rattle.std.proofs.Common.{◌≡◌, map, drop}
use Rattle.std.specs.Prelude.{string_bytes}
use Rattle.std.specs.List.{list_all}
use Rattle.id3_tags.specs.Writing.{is_string}
use Rattle.id3_tags.proofs.writable.are_strings.Given as goal

-- those that are left decide
abbrev pub invariant-loop-text : goal.invariant-loop-text
invariant-loop-text l =
    list_all is_string (map string_bytes (drop l.text-index l.texts)) ≡ list_all is_string (map string_bytes l.texts)
