use Rattle.machine_core.proofs.Missing.{missed_kept}
use Rattle.machine_core.proofs.Rounds.Machine.{at_kept, broken_kept, clocked_kept, command_kept, ended_kept, fed_kept, found_kept}
use Rattle.machine_core.proofs.Rounds.Machine.{resumed_kept, room_kept, scanned_kept}
use Rattle.machine_core.proofs.laws.kept_place_stays_in_step.Goals as goal

pub returns : goal.returns
returns c = record {
  command = command_kept;
  fed = fed_kept;
  ended = ended_kept;
  broken = broken_kept;
  found = found_kept;
  scanned = λ job m is. (scanned_kept job m is, λ missing. missed_kept job missing m is);
  clocked = clocked_kept;
  kept_at = at_kept;
  resumed = resumed_kept;
  told = room_kept;
}
