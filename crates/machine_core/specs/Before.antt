-- What is kept of a machine before a command or an event, and which subsystems are told to have changed by comparing it with the machine
-- behind. That these are the subsystems that did change is a law of the shared forms.
use Rattle.std.specs.Prelude.{Bool, true, false, not, ◌&&◌, ◌==◌, List, nat_eq}
use Rattle.std.specs.List.{list_any}
use Rattle.std.specs.Option.{option_eq}
use Rattle.idle_masks.specs.declared.subsystem.Subsystems.{Subsystems}
use Rattle.state_codec.specs.OpsSettings.{same_flag}
use Rattle.state_codec.specs.declared.op.Op.{Op}
use Rattle.state_codec.specs.declared.op.Op.TheVariants.{SetOption, SetVolume, SetOrder, Queue, List as Lists, Sticker, Batch, Place, Timed}
use Rattle.machine_core.specs.Changed.{same_options, same_state}
use Rattle.machine_core.specs.State.{MachineState}
use Rattle.machine_core.specs.declared.changed.Before.{Before}

-- the values that are compared
abbrev pub before_of : MachineState → Before
before_of m = record {
  version = m.saved.queue.version;
  volume = m.saved.volume;
  options = m.saved.options;
  state = m.player.state;
  current = m.player.current;
  ticket = m.player.ticket;
  job = m.job.number;
  runs = m.job.runs;
}

-- an op of the stored playlists
abbrev pub is_of_lists : Op → Bool
is_of_lists (SetOption setting) = false
is_of_lists (SetVolume volume) = false
is_of_lists (SetOrder order) = false
is_of_lists (Queue op) = false
is_of_lists (Lists op) = true
is_of_lists (Sticker op) = false
is_of_lists (Batch changes) = false
is_of_lists (Place op) = false
is_of_lists (Timed seconds) = false

-- an op of stickers
abbrev pub is_of_stickers : Op → Bool
is_of_stickers (SetOption setting) = false
is_of_stickers (SetVolume volume) = false
is_of_stickers (SetOrder order) = false
is_of_stickers (Queue op) = false
is_of_stickers (Lists op) = false
is_of_stickers (Sticker op) = true
is_of_stickers (Batch changes) = false
is_of_stickers (Place op) = false
is_of_stickers (Timed seconds) = false

-- the same state, current id and ticket as before
abbrev pub plays_on : Before → MachineState → Bool
plays_on before m =
    same_state before.state m.player.state && (option_eq nat_eq before.current m.player.current && before.ticket == m.player.ticket)

-- the same job as before, which runs where it ran
abbrev pub keeps_job : Before → MachineState → Bool
keeps_job before m = before.job == m.job.number && same_flag before.runs m.job.runs

-- by these ops, made since, and by this machine
abbrev pub changed_since : Before → List Op → MachineState → Subsystems
changed_since before ops m = record {
  database = false;
  update = not (keeps_job before m);
  stored_playlist = list_any is_of_lists ops;
  playlist = not (before.version == m.saved.queue.version);
  player = not (plays_on before m);
  mixer = not (before.volume == m.saved.volume);
  options = not (same_options before.options m.saved.options);
  sticker = list_any is_of_stickers ops;
  subscription = false;
  message = false;
}
