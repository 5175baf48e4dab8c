-- What holds of the ops of an event of the player or of a scan.
use Rattle.std.specs.Prelude.{◌≡◌, ◌≤◌, length, Some}
use Rattle.machine_core.specs.Happening.{Happening}
use Rattle.machine_core.specs.Keeping.{kept_event, when_kept, when_resumed}
use Rattle.machine_core.specs.Missing.{when_missed}
use Rattle.machine_core.specs.Reports.{when_fed, when_ended, when_broken}
use Rattle.machine_core.specs.Room.{when_room}
use Rattle.machine_core.specs.Scanning.{when_found, when_scanned}
use Rattle.machine_core.specs.Size.{max_request_bytes}
use Rattle.machine_core.specs.State.{MachineState}
use Rattle.state_codec.specs.Applied.{all_applied}
use Rattle.state_codec.specs.Spelling.{body_bytes}
use Rattle.daemon_core.specs.declared.event.Event.{Event}
use Rattle.daemon_core.specs.declared.event.Event.TheVariants as events

-- they rebuild the saved half, and fit into one record
pub record IsRebuilt (m : MachineState) (h : Happening) : Type 0 where
  pub state : all_applied h.ops m.saved ≡ Some h.after.saved
  pub fits : length (body_bytes m.saved.profile h.ops) ≤ max_request_bytes

-- nothing is said here of clients and their requests, nor of a clock
abbrev pub IsReported : Event → MachineState → Type 0
IsReported (events.Connect c) m = Unit {0}
IsReported (events.Request c request) m = Unit {0}
IsReported (events.Gone c) m = Unit {0}
IsReported (events.Fed ticket frames) m = IsRebuilt m (when_fed ticket frames m)
IsReported (events.Ended ticket) m = IsRebuilt m (kept_event m (when_ended ticket m))
IsReported (events.Broken ticket cause) m = IsRebuilt m (kept_event m (when_broken ticket cause m))
IsReported (events.Batch job changes) m = IsRebuilt m (kept_event m (when_found job changes m))
IsReported (events.Missing job songs) m = IsRebuilt m (when_missed job songs m)
IsReported (events.ScanDone job) m = IsRebuilt m (when_scanned job m)
IsReported (events.Clock time) m = Unit {0}
IsReported (events.Keep ticket) m = IsRebuilt m (when_kept ticket m)
IsReported (events.Resume plays) m = IsRebuilt m (when_resumed plays m)
IsReported (events.Room is_there) m = IsRebuilt m (when_room is_there m)
IsReported (events.Picture c told) m = Unit {0}
