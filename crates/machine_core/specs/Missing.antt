-- What is done where a scan has read its place and misses songs of the database: where they are too many, the music itself may be missing.
use Rattle.std.specs.Prelude.{ℕ, ◌+◌, ◌*◌, Bool, true, false, not, ◌&&◌, ◌||◌, ◌==◌, nat_lt, nat_le, [], length, Option, Some, None}
use Rattle.std.specs.Prelude.{if◌then◌else◌}
use Rattle.std.specs.Option.{option_eq}
use Rattle.std.specs.Str.{bytes_eq}
use Rattle.idle_masks.specs.Subsystems.{none}
use Rattle.player_core.specs.Player.{PlayerState}
use Rattle.player_core.specs.declared.failure.PlayFailure.{PlayFailure}
use Rattle.player_core.specs.declared.failure.PlayFailure.TheVariants.{CannotPlay, OutputFailed, Withheld}
use Rattle.profile.specs.declared.profile.Profile.{Profile}
use Rattle.profile.specs.declared.profile.Profile.TheVariants.{Named, Wide}
use Rattle.machine_core.specs.Happening.{Happening, nothing_happens}
use Rattle.machine_core.specs.Scanning.{after_job, is_running}
use Rattle.machine_core.specs.State.{MachineState}
use Rattle.machine_core.specs.declared.job.Job.{Job}
use Rattle.machine_core.specs.declared.job.WithheldJob.{WithheldJob}

-- all of so many songs, or more than half of them and more than a hundred
abbrev pub too_many : ℕ → ℕ → Bool
too_many missing songs =
    nat_lt 0 missing && (nat_le songs missing || (nat_lt 100 missing && nat_lt songs (2 * missing)))

-- for so many seconds a job is asked for again
abbrev pub again_seconds : ℕ
again_seconds = 600

-- a job of the same place missed as many songs a short time ago, and dropped none
abbrev pub is_again : Job → ℕ → ℕ → WithheldJob → Bool
is_again job missing now withheld =
    option_eq bytes_eq withheld.place job.place && (withheld.missing == missing && nat_le now (withheld.at + again_seconds))

abbrev pub was_asked : Job → ℕ → ℕ → Option WithheldJob → Bool
was_asked job missing now None = false
was_asked job missing now (Some withheld) = is_again job missing now withheld

-- the named profile withholds nothing
abbrev pub may_withhold : Profile → Bool
may_withhold Named = false
may_withhold Wide = true

-- The songs that the job misses are not dropped: they are too many, it doesn't open every file, and it isn't asked for again.
abbrev pub is_withheld : ℕ → MachineState → Bool
is_withheld missing m =
    may_withhold m.saved.profile && (not m.job.opens_all && (too_many missing (length m.saved.songs)
    && not (was_asked m.job missing m.clock.now m.withheld)))

-- what is kept of the job that runs, which withholds them
abbrev pub withheld_job : ℕ → MachineState → WithheldJob
withheld_job missing m = record {
  number = m.job.number;
  place = m.job.place;
  missing = missing;
  songs = length m.saved.songs;
  at = m.clock.now;
}

abbrev pub after_withheld : ℕ → MachineState → MachineState
after_withheld missing m = record (after_job m) {
  withheld = Some (withheld_job missing m);
  player = record m.player { error = Some (Withheld missing (length m.saved.songs)) };
}

-- The job is over before it drops one, which `update` tells; `player` is told of the error.
abbrev pub withholds : ℕ → MachineState → Happening
withholds missing m = record {
  ops = [];
  after = after_withheld missing m;
  changed = record none { update = true; player = true; database = m.job.has_changed_a_row };
}

-- the error is of a job that dropped nothing
abbrev pub is_of_withheld : Option PlayFailure → Bool
is_of_withheld None = false
is_of_withheld (Some (CannotPlay uri)) = false
is_of_withheld (Some OutputFailed) = false
is_of_withheld (Some (Withheld missing songs)) = true

-- such an error is shown no more
abbrev pub without_withheld : PlayerState → PlayerState
without_withheld player = if is_of_withheld player.error then record player { error = None } else player

abbrev pub after_ahead : MachineState → MachineState
after_ahead m = record m { withheld = None; player = without_withheld m.player }

-- the job goes on, and what was withheld before is forgotten
abbrev pub goes_ahead : MachineState → Happening
goes_ahead m = record {
  ops = [];
  after = after_ahead m;
  changed = record none { player = is_of_withheld m.player.error };
}

abbrev pub misses : ℕ → MachineState → Happening
misses missing m = if is_withheld missing m then withholds missing m else goes_ahead m

-- the job of this number has read its place, and misses so many songs that were known
abbrev pub when_missed : ℕ → ℕ → MachineState → Happening
when_missed job missing m = if is_running job m then misses missing m else nothing_happens m

-- the same job runs, begun anew at a time that is told
abbrev pub asked_at : ℕ → ℕ → Job → MachineState → MachineState
asked_at number now job m =
    record m { job = record job { number = number; runs = true }; clock = record m.clock { now = now } }
