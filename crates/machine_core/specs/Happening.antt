-- What an event of the player or of a scan does to a machine.
use Rattle.std.specs.Prelude.{◌≡◌, ◌≤◌, List, [], length, Some, if◌then◌else◌}
use Rattle.idle_masks.specs.Subsystems.{none}
use Rattle.idle_masks.specs.declared.subsystem.Subsystems.{Subsystems}
use Rattle.state_codec.specs.Applied.{all_applied}
use Rattle.state_codec.specs.Spelling.{body_bytes}
use Rattle.state_codec.specs.declared.op.Op.{Op}
use Rattle.machine_core.specs.Size.{max_request_bytes}
use Rattle.machine_core.specs.State.{MachineState, lacks_room}
use Rattle.machine_core.specs.declared.happened.Happened.{Happened}

-- the ops that it makes, the machine after it, and the subsystems that it changes
pub record Happening : Type 0 where
  pub ops : List Op
  pub after : MachineState
  pub changed : Subsystems

abbrev pub nothing_happens : MachineState → Happening
nothing_happens m = record { ops = []; after = m; changed = none }

-- nothing happens where there is no room for what it would change
abbrev pub if_room : MachineState → Happening → Happening
if_room m h = if lacks_room m then nothing_happens m else h

-- It happened as it must. The ops give the saved half after it from the one before it, and fit into one record.
pub record HasHappened (h : Happening) (before after : MachineState) (happened : Happened) : Type 0 where
  pub state : after ≡ h.after
  pub ops : happened.ops.items ≡ h.ops
  pub changed : happened.changed ≡ h.changed
  pub rebuilt : all_applied h.ops before.saved ≡ Some h.after.saved
  pub fits : length (body_bytes before.saved.profile h.ops) ≤ max_request_bytes
