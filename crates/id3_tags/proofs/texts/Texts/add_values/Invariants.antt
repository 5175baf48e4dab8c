use Rattle.std.proofs.Common.{◌≡◌, ◌≤◌, ◌++◌, length, take, drop, map}
use Rattle.std.specs.Prelude.{string_bytes}
use Rattle.id3_tags.specs.Texts.{labelled}
use Rattle.id3_tags.proofs.texts.Texts.add_values.Given as goal

-- the texts so far, with those of the values that are left, are all
abbrev pub invariant-loop-value : goal.invariant-loop-value
invariant-loop-value l =
    (length l.self ≤ 256)
    × (take 256 (l.self ++ labelled l.label.id l.label.language (string_bytes l.label.description) (map string_bytes (drop
    l.value-index l.values))) ≡ take 256 (l.initial.self ++ labelled l.label.id l.label.language (string_bytes l.label.description)
    (map string_bytes l.values)))
