use Rattle.std.proofs.Common.{◌-◌}
use Rattle.std.specs.List.{range_with_len}
use Rattle.machine_core.specs.Entries.{position_info}
use Rattle.machine_core.specs.Spans.{positions_in}
use Rattle.command_text.proofs.LineLoops.{Leaves}
use Rattle.machine_core.proofs.answer_entries.write_span.Given as goal

abbrev pub invariant-loop-position : goal.invariant-loop-position
invariant-loop-position l =
    Leaves (position_info l.mask l.saved) (positions_in l.fn.span) (range_with_len l.position (l.position-end - l.position)) l.fn.out l.out
