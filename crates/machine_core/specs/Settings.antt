-- The commands of the settings.
use Rattle.std.specs.Prelude.{ℕ, ◌+◌, ◌-◌, min, [], ◌++◌, Option, Some, None, option_map, option_and_then, slice_get, length}
use Rattle.std.specs.Prelude.{if◌then◌else◌}
use Rattle.command_text.specs.AnswerSetup.{setup_status}
use Rattle.command_text.specs.AnswerStatus.{status_lines, volume_line}
use Rattle.command_text.specs.declared.answer.status.CurrentSong.{CurrentSong}
use Rattle.command_text.specs.declared.answer.status.StatusLines.{StatusLines}
use Rattle.command_text.specs.declared.command.settings.SettingsCommand.{SettingsCommand}
use Rattle.command_text.specs.declared.command.settings.SettingsCommand.TheVariants as commands
use Rattle.command_text.specs.declared.command.settings.VolumeStep.{VolumeStep}
use Rattle.play_queue.specs.declared.entry.Entry.{Entry}
use Rattle.song_db.specs.Row.{Row, row_at}
use Rattle.state_codec.specs.declared.op.Op.TheVariants.{SetOption, SetVolume}
use Rattle.state_codec.specs.declared.op.setting.Setting.TheVariants.{Repeat, Random, Single, Consume}
use Rattle.machine_core.specs.Lent.{lent}
use Rattle.machine_core.specs.Meaning.{Meant, says, edits}
use Rattle.machine_core.specs.State.{MachineState, shown_of}
use Rattle.machine_core.specs.declared.job.Job.{Job}

-- an entry and its row, as the current song
abbrev pub as_current : MachineState → ℕ → Entry → Row → CurrentSong
as_current m position entry row = record { position = position; id = entry.id; frame = m.player.frame; row = lent row }

abbrev pub entry_as_current : MachineState → ℕ → Entry → Option CurrentSong
entry_as_current m position entry = option_map (as_current m position entry) (row_at m.saved.songs entry.uri)

abbrev pub song_at : MachineState → ℕ → Option CurrentSong
song_at m position = option_and_then (entry_as_current m position) (slice_get m.saved.queue.entries position)

abbrev pub running_job : Job → Option ℕ
running_job job = if job.runs then Some job.number else None

abbrev pub status_of : MachineState → StatusLines
status_of m = record {
  volume = m.saved.volume;
  options = m.saved.options;
  version = m.saved.queue.version;
  length = length m.saved.queue.entries;
  state = m.player.state;
  current = option_and_then (song_at m) (shown_of m).current;
  next = (shown_of m).next;
  job = running_job m.job;
  error = option_map (λ failure. lent failure) m.player.error;
  is_unread = m.clock.is_unread;
}

-- the volume behind a step, from 0 to 100
abbrev pub stepped_volume : VolumeStep → ℕ → ℕ
stepped_volume step volume = if step.is_down then volume - step.by else min (volume + step.by) 100

-- `close` and `kill` end the request before they mean anything to the machine
unfoldable pub settings_meaning : SettingsCommand → MachineState → Meant
settings_meaning (commands.ChangeVolume step) m = edits (SetVolume (stepped_volume step m.saved.volume)) [] m
settings_meaning commands.Close m = says [] m
settings_meaning (commands.Consume consume) m = edits (SetOption (Consume consume)) [] m
settings_meaning commands.GetVolume m = says (volume_line m.saved.volume) m
settings_meaning commands.Kill m = says [] m
settings_meaning commands.Ping m = says [] m
settings_meaning (commands.Random on) m = edits (SetOption (Random on)) [] m
settings_meaning (commands.Repeat on) m = edits (SetOption (Repeat on)) [] m
settings_meaning (commands.SetVolume volume) m = edits (SetVolume volume) [] m
settings_meaning (commands.Single single) m = edits (SetOption (Single single)) [] m
settings_meaning commands.Status m = says (status_lines (status_of m) ++ setup_status m.saved.profile) m
