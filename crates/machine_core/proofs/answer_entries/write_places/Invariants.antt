use Rattle.std.proofs.Common.{drop}
use Rattle.machine_core.specs.Entries.{place_info}
use Rattle.command_text.proofs.LineLoops.{Leaves}
use Rattle.machine_core.proofs.answer_entries.write_places.Given as goal

abbrev pub invariant-loop-position : goal.invariant-loop-position
invariant-loop-position l = Leaves (place_info l.entries) l.positions (drop l.position-index l.positions) l.fn.out l.out
