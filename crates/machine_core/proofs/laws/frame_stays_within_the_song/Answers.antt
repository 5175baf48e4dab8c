use Rattle.machine_core.proofs.Missing.{when_missed_holds}
use Rattle.machine_core.proofs.Sound.Kept.{when_fed_holds, when_scanned_holds}
use Rattle.machine_core.proofs.Sound.Resumed.{kept_broken_holds, kept_command_holds, kept_ended_holds, kept_found_holds, when_kept_holds}
use Rattle.machine_core.proofs.Sound.Resumed.{when_resumed_holds, when_room_holds}
use Rattle.machine_core.proofs.laws.frame_stays_within_the_song.Goals as goal

pub returns : goal.returns
returns c = record {
  command = kept_command_holds;
  fed = when_fed_holds;
  ended = kept_ended_holds;
  broken = kept_broken_holds;
  found = kept_found_holds;
  missed = when_missed_holds;
  scanned = when_scanned_holds;
  kept_at = when_kept_holds;
  resumed = when_resumed_holds;
  told = when_room_holds;
}
