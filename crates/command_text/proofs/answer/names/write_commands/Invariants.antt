use Rattle.std.proofs.Common.{drop}
use Rattle.command_text.specs.Names.{all_names}
use Rattle.command_text.proofs.LineLoops.{Leaves}
use Rattle.command_text.proofs.Listing.{listed_lines}
use Rattle.command_text.proofs.answer.names.write_commands.Given as goal

abbrev pub invariant-loop-place : goal.invariant-loop-place
invariant-loop-place l = Leaves (listed_lines l.fn.profile) all_names (drop l.place all_names) l.fn.out l.out
