use Rattle.std.proofs.Common.{◌≡◌, drop}
use Rattle.std.specs.List.{list_all}
use Rattle.id3_tags.specs.Writing.{is_writable}
use Rattle.id3_tags.proofs.writable.are_writable.Given as goal

-- those that are left decide
abbrev pub invariant-loop-frame : goal.invariant-loop-frame
invariant-loop-frame l = list_all is_writable (drop l.frame-index l.frames) ≡ list_all is_writable l.frames
