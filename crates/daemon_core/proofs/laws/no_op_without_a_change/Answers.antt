use Rattle.daemon_core.proofs.UnchangedLaws.{MachineTells, no_op, nothing_changed}
use Rattle.daemon_core.proofs.laws.no_op_without_a_change.Goals as goal

pub returns : goal.returns
returns c =
    let of_command = c.no_op_without_a_change.ensures in
    let of_event = c.no_op_of_an_event_without_a_change.ensures in
    let known : MachineTells = record {
      none = of_command.none;
      same = of_command.same;
      ended_none = of_event.none;
      ended_same = of_event.same;
      broken_none = of_event.broken_none;
      broken_same = of_event.broken_same;
      found = of_event.found;
      kept_none = of_event.kept_none;
      kept_same = of_event.kept_same;
      told_none = of_event.told_none;
      told_same = of_event.told_same;
    } in
    record { none = no_op known; same = nothing_changed known }
