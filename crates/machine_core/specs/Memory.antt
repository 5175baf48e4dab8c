-- Which commands take memory of their own.
use Rattle.std.specs.Prelude.{Bool, true, false, not, ◌||◌, List, [], ◌∷◌, Result, Ok, Err}
use Rattle.command_text.specs.declared.command.Command.{Command}
use Rattle.command_text.specs.declared.command.Command.TheVariants as commands
use Rattle.command_text.specs.declared.command.database.DatabaseCommand.{DatabaseCommand}
use Rattle.command_text.specs.declared.command.database.DatabaseCommand.TheVariants as database
use Rattle.command_text.specs.declared.command.playing.PlayingCommand.{PlayingCommand}
use Rattle.command_text.specs.declared.command.playing.PlayingCommand.TheVariants as playing
use Rattle.command_text.specs.declared.command.queue.QueueCommand.{QueueCommand}
use Rattle.command_text.specs.declared.command.queue.QueueCommand.TheVariants as queue
use Rattle.command_text.specs.declared.command.settings.SettingsCommand.{SettingsCommand}
use Rattle.command_text.specs.declared.command.settings.SettingsCommand.TheVariants as settings
use Rattle.command_text.specs.declared.command.messages.MessagesCommand.{MessagesCommand}
use Rattle.command_text.specs.declared.command.messages.MessagesCommand.TheVariants as messages
use Rattle.command_text.specs.declared.command.setup.SetupCommand.{SetupCommand}
use Rattle.command_text.specs.declared.command.setup.SetupCommand.TheVariants as setup
use Rattle.command_text.specs.Masks.{all_in_mask}
use Rattle.machine_core.specs.Database.{may_wait}
use Rattle.machine_core.specs.Meaning.{Meant}
use Rattle.machine_core.specs.Queue.{queue_meaning}
use Rattle.machine_core.specs.Settings.{settings_meaning}
use Rattle.machine_core.specs.State.{MachineState}

abbrev pub has_any : {A : Type 0} → List A → Bool
has_any [] = false
has_any (x ∷ xs) = true

-- a command that isn't refused, and answers lines or makes ops
abbrev pub grows : Meant → Bool
grows (Ok x) = has_any x.text || has_any x.ops
grows (Err refusal) = false

-- an option and the volume take memory where they are set to another value; `status` and `getvol` take it for their lines
abbrev pub settings_take_memory : SettingsCommand → MachineState → Bool
settings_take_memory settings.GetVolume m = true
settings_take_memory settings.Status m = true
settings_take_memory command m = grows (settings_meaning command m)

-- `update` beside a job that runs, where it can't wait, is refused before it takes any
abbrev pub takes_a_job : MachineState → Bool
takes_a_job m = not m.job.runs || may_wait m.saved.profile m.waiting

abbrev pub database_takes_memory : DatabaseCommand → MachineState → Bool
database_takes_memory (database.ChangeMask change) m = false
database_takes_memory database.NotCommands m = false
database_takes_memory (database.Update place) m = takes_a_job m
database_takes_memory (database.Rescan place) m = takes_a_job m
database_takes_memory _ m = true

-- those that take entries out of the queue or exchange their places take memory for their op alone
abbrev pub queue_takes_memory : QueueCommand → MachineState → Bool
queue_takes_memory queue.Clear m = grows (queue_meaning all_in_mask queue.Clear m)
queue_takes_memory (queue.Delete range) m = grows (queue_meaning all_in_mask (queue.Delete range) m)
queue_takes_memory (queue.DeleteId id) m = grows (queue_meaning all_in_mask (queue.DeleteId id) m)
queue_takes_memory (queue.Move range to) m = grows (queue_meaning all_in_mask (queue.Move range to) m)
queue_takes_memory (queue.MoveId id to) m = grows (queue_meaning all_in_mask (queue.MoveId id to) m)
queue_takes_memory (queue.Shuffle range) m = grows (queue_meaning all_in_mask (queue.Shuffle range) m)
queue_takes_memory (queue.Swap one other) m = grows (queue_meaning all_in_mask (queue.Swap one other) m)
queue_takes_memory (queue.SwapId one other) m = grows (queue_meaning all_in_mask (queue.SwapId one other) m)
queue_takes_memory command m = true

-- the others may remember what was played, or answer lines
abbrev pub playing_takes_memory : PlayingCommand → Bool
playing_takes_memory playing.ClearError = false
playing_takes_memory (playing.Pause switch) = false
playing_takes_memory playing.Stop = false
playing_takes_memory command = true

-- of the commands of messages only the end of a subscription takes none
abbrev pub messages_take_memory : MessagesCommand → Bool
messages_take_memory (messages.Unsubscribe channel) = false
messages_take_memory command = true

abbrev pub setup_takes_memory : SetupCommand → Bool
setup_takes_memory (setup.BinaryLimit limit) = false
setup_takes_memory setup.Nothing = false
setup_takes_memory command = true

-- Want of memory is answered at no other command.
abbrev pub takes_memory : Command → MachineState → Bool
takes_memory (commands.Settings command) m = settings_take_memory command m
takes_memory (commands.Database command) m = database_takes_memory command m
takes_memory (commands.Queue command) m = queue_takes_memory command m
takes_memory (commands.Finding command) m = true
takes_memory (commands.Lists command) m = true
takes_memory (commands.Stickers command) m = true
takes_memory (commands.Playing command) m = playing_takes_memory command
takes_memory (commands.Messages command) m = messages_take_memory command
takes_memory (commands.Pictures command) m = true
takes_memory (commands.Session command) m = false
takes_memory (commands.Setup command) m = setup_takes_memory command
