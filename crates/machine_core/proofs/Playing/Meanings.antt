-- What the commands of the player mean.
use Rattle.std.proofs.Common.{◌≡◌, refl}
use Rattle.command_text.specs.declared.command.playing.PlayingCommand.TheVariants.{CurrentSong}
use Rattle.command_text.specs.declared.tag_mask.TagMask.{TagMask}
use Rattle.machine_core.specs.Entries.{shown_info}
use Rattle.machine_core.specs.Meaning.{says}
use Rattle.machine_core.specs.Playing.{playing_meaning}
use Rattle.machine_core.specs.State.{MachineState, shown_of}

pub current_means : (mask : TagMask) (m : MachineState)
    → playing_meaning mask CurrentSong m ≡ says (shown_info mask m.saved (shown_of m).current) m
unfolding playing_meaning
current_means mask m = refl
