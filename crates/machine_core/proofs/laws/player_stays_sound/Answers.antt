use Rattle.machine_core.proofs.Missing.{when_missed_sound}
use Rattle.machine_core.proofs.Sound.Commands.{when_fed_sound, when_scanned_sound}
use Rattle.machine_core.proofs.Sound.Resumed.{kept_broken_sound, kept_command_sound, kept_ended_sound, kept_found_sound, when_kept_sound}
use Rattle.machine_core.proofs.Sound.Resumed.{when_resumed_sound, when_room_sound}
use Rattle.machine_core.proofs.laws.player_stays_sound.Goals as goal

pub returns : goal.returns
returns c = record {
  command = kept_command_sound;
  fed = when_fed_sound;
  ended = kept_ended_sound;
  broken = kept_broken_sound;
  found = kept_found_sound;
  missed = when_missed_sound;
  scanned = when_scanned_sound;
  kept_at = when_kept_sound;
  resumed = when_resumed_sound;
  told = when_room_sound;
}
