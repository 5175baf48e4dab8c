-- The events that change nothing of what is saved, each part of them at its turn.
use Rattle.std.specs.Prelude.{◌≡◌, ℕ, suc, List, [], ◌∷◌, true, false, Option, Some, None}
use Rattle.command_text.specs.declared.place.Place.{Place}
use Rattle.command_text.specs.declared.place.Place.TheVariants.{Alone, InList}
use Rattle.command_text.specs.declared.request.Request.{Request}
use Rattle.command_text.specs.declared.request.Request.TheVariants.{Single, List as CommandList, OkList, Noidle}
use Rattle.idle_masks.specs.Watched.{watched}
use Rattle.idle_masks.specs.declared.subsystem.Subsystems.{Subsystems}
use Rattle.machine_core.specs.Keeping.{kept_event, when_kept}
use Rattle.machine_core.specs.Reports.{when_broken, when_ended}
use Rattle.machine_core.specs.Room.{when_room}
use Rattle.machine_core.specs.Scanning.{is_running, kept_changes, telling, spared}
use Rattle.machine_core.specs.State.{MachineState, lacks_room}
use Rattle.state_codec.specs.declared.op.Op.{Op}
use Rattle.daemon_core.specs.Run.{Asker, Did, Goes, Refuses, Ends, attempted, is_refused_at, Spent, spent_behind, spent_on}
use Rattle.daemon_core.specs.State.{State}
use Rattle.daemon_core.specs.Step.{asking, begun, waiting_of}
use Rattle.daemon_core.specs.declared.event.Event.{Event}
use Rattle.daemon_core.specs.declared.event.Event.TheVariants as events

-- a command that goes well leaves the saved half as it finds it, and so does what follows it
abbrev pub CommandLeaves : (List Op → Spent) → MachineState → (Spent → MachineState → Type 0) → Did → Type 0
CommandLeaves behind m Rest (Goes x) = (x.after.saved ≡ m.saved) × Rest (spent_on behind x) x.after
CommandLeaves behind m Rest (Refuses refusal) = Unit {0}
CommandLeaves behind m Rest (Ends ending) = Unit {0}

-- The commands from this index on, up to the first that is refused, is refused memory or ends the request: each leaves the saved half as
-- it finds it.
unfoldable pub CommandsLeave : Asker → Place → Option ℕ → ℕ → Spent → List (List ℕ) → MachineState → Type 0
CommandsLeave c place refused index spent [] m = Unit {0}
CommandsLeave c place refused index spent (line ∷ lines) m =
    is_refused_at refused index ≡ false
    → CommandLeaves (spent_behind place line m spent) m (λ spent after. CommandsLeave c place refused (suc index) spent lines after)
    (attempted c place spent line m)

abbrev pub RequestLeaves : Asker → Option ℕ → Spent → MachineState → Request → Type 0
RequestLeaves c refused spent m (Single line) = CommandsLeave c Alone refused 0 spent (line ∷ []) m
RequestLeaves c refused spent m (CommandList lines) = CommandsLeave c InList refused 0 spent lines m
RequestLeaves c refused spent m (OkList lines) = CommandsLeave c InList refused 0 spent lines m
RequestLeaves c refused spent m Noidle = Unit {0}

-- no command is run of a client that isn't connected, or waits
abbrev pub AskedLeaves : Asker → Option ℕ → Spent → MachineState → Request → Option (Option Subsystems) → Type 0
AskedLeaves c refused spent m request None = Unit {0}
AskedLeaves c refused spent m request (Some None) = RequestLeaves c refused spent m request
AskedLeaves c refused spent m request (Some (Some mask)) = Unit {0}

-- Nothing that is saved changes at any turn: each command of a request leaves the saved half as it finds it, so does what follows the end
-- of a song or its failure, where the player is is kept already, and no change of a batch of the job that runs changes a row, beside one
-- that drops the song that is heard. Of the saved half no other event speaks.
abbrev pub LeavesSaved : State → Event → Option ℕ → Type 0
LeavesSaved s (events.Connect c) refused = Unit {0}
LeavesSaved s (events.Request c request) refused =
    AskedLeaves (asking c s) refused (begun c s) s.machine request (waiting_of (watched s.clients c))
LeavesSaved s (events.Gone c) refused = Unit {0}
LeavesSaved s (events.Fed ticket frames) refused = Unit {0}
LeavesSaved s (events.Ended ticket) refused = (kept_event s.machine (when_ended ticket s.machine)).after.saved ≡ s.machine.saved
LeavesSaved s (events.Broken ticket cause) refused = (kept_event s.machine (when_broken ticket cause s.machine)).after.saved
    ≡ s.machine.saved
LeavesSaved s (events.Batch job changes) refused =
    is_running job s.machine ≡ true → lacks_room s.machine ≡ false
    → telling s.machine.saved.songs (kept_changes s.machine.saved.profile (spared s.machine changes)) ≡ []
LeavesSaved s (events.Missing job songs) refused = Unit {0}
LeavesSaved s (events.ScanDone job) refused = Unit {0}
LeavesSaved s (events.Clock time) refused = Unit {0}
LeavesSaved s (events.Keep ticket) refused = (when_kept ticket s.machine).after.saved ≡ s.machine.saved
LeavesSaved s (events.Resume plays) refused = Unit {0}
LeavesSaved s (events.Room is_there) refused = (when_room is_there s.machine).after.saved ≡ s.machine.saved
LeavesSaved s (events.Picture c told) refused = Unit {0}
