use Rattle.std.proofs.Common.{drop}
use Rattle.machine_core.specs.Entries.{position_info}
use Rattle.command_text.proofs.LineLoops.{Leaves}
use Rattle.machine_core.proofs.answer_entries.write_positions.Given as goal

abbrev pub invariant-loop-position : goal.invariant-loop-position
invariant-loop-position l = Leaves (position_info l.mask l.saved) l.positions (drop l.position-index l.positions) l.fn.out l.out
