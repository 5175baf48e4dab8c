use Rattle.std.proofs.Common.{◌≡◌, ◌+◌, drop}
use Rattle.command_text.specs.Arguments.{range_of}
use Rattle.command_text.specs.Counts.{each}
use Rattle.command_text.proofs.Repeated.{behind}
use Rattle.command_text.proofs.each.ranges.Given as goal

abbrev pub invariant-loop-place : goal.invariant-loop-place
invariant-loop-place l = behind l.ranges.items (each range_of (l.place + 2) (drop l.place l.words)) ≡ each range_of 2 l.words
