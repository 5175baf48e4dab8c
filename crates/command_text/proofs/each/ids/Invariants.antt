use Rattle.std.proofs.Common.{◌≡◌, ◌+◌, drop}
use Rattle.command_text.specs.Arguments.{number_of}
use Rattle.command_text.specs.Counts.{each}
use Rattle.command_text.proofs.Repeated.{behind}
use Rattle.command_text.proofs.each.ids.Given as goal

abbrev pub invariant-loop-place : goal.invariant-loop-place
invariant-loop-place l = behind l.ids.items (each number_of (l.place + 2) (drop l.place l.words)) ≡ each number_of 2 l.words
