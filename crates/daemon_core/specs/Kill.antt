-- The requests that end the daemon.
use Rattle.std.specs.Prelude.{ℕ, suc, Bool, true, false, not, ◌&&◌, ◌||◌, List, [], ◌∷◌, Option, Some, None, Result, Ok, Err}
use Rattle.command_text.specs.Reading.{line_reading}
use Rattle.command_text.specs.declared.command.Command.{Command}
use Rattle.command_text.specs.declared.command.Command.TheVariants as commands
use Rattle.command_text.specs.declared.command.NamedCommand.{NamedCommand}
use Rattle.command_text.specs.declared.command.settings.SettingsCommand.{SettingsCommand}
use Rattle.command_text.specs.declared.command.settings.SettingsCommand.TheVariants as settings
use Rattle.command_text.specs.declared.place.Place.{Place}
use Rattle.command_text.specs.declared.place.Place.TheVariants.{Alone, InList}
use Rattle.command_text.specs.declared.refusal.Refusal.{Refusal}
use Rattle.command_text.specs.declared.request.Request.{Request}
use Rattle.command_text.specs.declared.request.Request.TheVariants.{Single, List as CommandList, OkList, Noidle}
use Rattle.idle_masks.specs.Watched.{watched}
use Rattle.idle_masks.specs.declared.subsystem.Subsystems.{Subsystems}
use Rattle.machine_core.specs.State.{MachineState}
use Rattle.daemon_core.specs.Run.{Asker, Did, Done, Goes, Refuses, Ends, attempted, is_refused_at, Spent, spent_behind, spent_on}
use Rattle.daemon_core.specs.State.{State}
use Rattle.daemon_core.specs.Step.{asking, begun, waiting_of}
use Rattle.daemon_core.specs.declared.event.Event.{Event}
use Rattle.daemon_core.specs.declared.event.Event.TheVariants as events

abbrev pub kills : SettingsCommand → Bool
kills settings.Kill = true
kills command = false

abbrev pub is_kill : Command → Bool
is_kill (commands.Settings command) = kills command
is_kill command = false

-- a line reads as `kill`
abbrev pub reads_kill : Result NamedCommand Refusal → Bool
reads_kill (Ok named) = is_kill named.command
reads_kill (Err refusal) = false

-- the command goes well, and what follows it passes
abbrev pub goes_on : Did → (Done → Bool) → Bool
goes_on (Goes x) rest = rest x
goes_on (Refuses refusal) rest = false
goes_on (Ends ending) rest = false

-- The commands from this index on come to `kill`: those before it go well, and none of them nor `kill` is refused memory.
unfoldable pub comes_to_kill : Asker → Place → Option ℕ → ℕ → Spent → List (List ℕ) → MachineState → Bool
comes_to_kill c place refused index spent [] m = false
comes_to_kill c place refused index spent (line ∷ lines) m =
    not (is_refused_at refused index) && (reads_kill (line_reading m.saved.profile place line)
    || goes_on (attempted c place spent line m) (λ x.
    comes_to_kill c place refused (suc index) (spent_on (spent_behind place line m spent) x) lines x.after))

abbrev pub request_kills : Asker → Option ℕ → Spent → MachineState → Request → Bool
request_kills c refused spent m (Single line) = comes_to_kill c Alone refused 0 spent (line ∷ []) m
request_kills c refused spent m (CommandList lines) = comes_to_kill c InList refused 0 spent lines m
request_kills c refused spent m (OkList lines) = comes_to_kill c InList refused 0 spent lines m
request_kills c refused spent m Noidle = false

-- a client that is connected and doesn't wait asks so
abbrev pub asks_to_kill : ℕ → Option ℕ → State → Request → Option (Option Subsystems) → Bool
asks_to_kill c refused s request (Some None) = request_kills (asking c s) refused (begun c s) s.machine request
asks_to_kill c refused s request found = false

abbrev pub ends_daemon : State → Event → Option ℕ → Bool
ends_daemon s (events.Request c request) refused = asks_to_kill c refused s request (waiting_of (watched s.clients c))
ends_daemon s event refused = false
