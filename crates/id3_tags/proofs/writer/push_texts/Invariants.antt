use Rattle.std.proofs.Common.{◌≡◌, ◌++◌, drop}
use Rattle.std.specs.List.{flat_map}
use Rattle.id3_tags.specs.Writing.{written_text}
use Rattle.id3_tags.proofs.writer.push_texts.Given as goal

-- what is written, with the frames that are left, is all
abbrev pub invariant-loop-frame : goal.invariant-loop-frame
invariant-loop-frame l =
    l.bytes.items ++ flat_map written_text (drop l.frame-index l.frames) ≡ l.initial.bytes.items ++ flat_map written_text l.frames
