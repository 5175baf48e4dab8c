-- The commands of the player.
use Rattle.std.specs.Prelude.{Some, None}
use Rattle.command_text.specs.declared.command.playing.PlayingCommand.{PlayingCommand}
use Rattle.command_text.specs.declared.command.playing.PlayingCommand.TheVariants as commands
use Rattle.command_text.specs.declared.tag_mask.TagMask.{TagMask}
use Rattle.player_core.specs.Commands.{halted, paused, previous_one}
use Rattle.player_core.specs.Seek.{sought_here}
use Rattle.machine_core.specs.Entries.{shown_info}
use Rattle.machine_core.specs.Meaning.{Meant, says, turns}
use Rattle.machine_core.specs.State.{MachineState, settings_of, shown_of}
use Rattle.machine_core.specs.Steps.{step_in, moves, puts, named_length, current_length}
use Rattle.machine_core.specs.declared.steps.PlayerStep.TheVariants as steps

unfoldable pub playing_meaning : TagMask → PlayingCommand → MachineState → Meant
playing_meaning mask commands.ClearError m = turns (record m.player { error = None }) m
playing_meaning mask commands.CurrentSong m = says (shown_info mask m.saved (shown_of m).current) m
playing_meaning mask commands.Next m = moves (step_in steps.Next m) m
playing_meaning mask (commands.Pause switch) m = turns (record m.player { state = paused switch m.player.state }) m
playing_meaning mask (commands.Play None) m = moves (step_in steps.Resume m) m
playing_meaning mask (commands.Play (Some selector)) m = moves (step_in (steps.Play selector) m) m
playing_meaning mask commands.Previous m = puts (previous_one m.saved.queue.entries (settings_of m.saved) m.player) m
playing_meaning mask (commands.Seek selector milliseconds) m =
    moves (step_in (steps.Seek selector (named_length selector m) milliseconds) m) m
playing_meaning mask (commands.SeekCurrent time) m = puts (sought_here (settings_of m.saved) (current_length m) time m.player) m
playing_meaning mask commands.Stop m = turns (halted m.player.state m.player) m
