-- What the events of a scan do: a batch of changes of rows, and the end.
use Rattle.std.specs.Prelude.{ℕ, Bool, true, false, not, ◌&&◌, ◌==◌, List, [], ◌∷◌, ◌++◌, drop, filter, Option, Some, None, if◌then◌else◌}
use Rattle.std.specs.Str.{bytes_eq}
use Rattle.play_queue.specs.declared.entry.Entry.{Entry}
use Rattle.player_core.specs.declared.playing.PlayState.{PlayState}
use Rattle.player_core.specs.declared.playing.PlayState.TheVariants.{Stop, Play, Pause}
use Rattle.player_core.specs.Order.{current_entry}
use Rattle.profile.specs.declared.profile.Profile.{Profile}
use Rattle.profile.specs.declared.profile.Profile.TheVariants.{Named, Wide}
use Rattle.song_db.specs.Change.{after_change}
use Rattle.song_db.specs.Effect.{effect_of, changes_a_row}
use Rattle.song_db.specs.Row.{Row}
use Rattle.song_db.specs.declared.change.RowChange.{RowChange}
use Rattle.song_db.specs.declared.change.RowChange.TheVariants.{Put, Drop}
use Rattle.state_codec.specs.Applied.{after_all}
use Rattle.state_codec.specs.Changes.{is_kept_change}
use Rattle.state_codec.specs.declared.op.Op.TheVariants.{Batch}
use Rattle.machine_core.specs.Changed.{changed}
use Rattle.machine_core.specs.Database.{asked, begun}
use Rattle.machine_core.specs.Followed.{followed}
use Rattle.machine_core.specs.Happening.{Happening, if_room, nothing_happens}
use Rattle.machine_core.specs.Meaning.{order_ops}
use Rattle.machine_core.specs.State.{MachineState}
use Rattle.machine_core.specs.declared.job.Job.{Job}
use Rattle.machine_core.specs.declared.job.WaitingJob.{WaitingJob}

-- the job of this number runs
abbrev pub is_running : ℕ → MachineState → Bool
is_running job m = m.job.runs && m.job.number == job

-- the job is over at a time
abbrev pub over : ℕ → Job → Job
over now job = record job { runs = false; read = now }

-- the job behind it: the one that waited longest begins, if one waits
abbrev pub job_behind : List WaitingJob → ℕ → Job → Job
job_behind [] now job = over now job
job_behind (next ∷ waiting) now job = begun next.number next.place next.opens_all now

abbrev pub after_job : MachineState → MachineState
after_job m = record m { job = job_behind m.waiting m.clock.now m.job; waiting = drop 1 m.waiting }

-- the job that runs and those that wait, each as it was asked for
abbrev pub jobs_of : MachineState → List WaitingJob
jobs_of m = if m.job.runs then asked m.job.number m.job.place m.job.opens_all ∷ m.waiting else []

-- the job is over, which `update` tells; `database` is told where one of its changes changed a row
abbrev pub ends_scan : MachineState → Happening
ends_scan m = record {
  ops = [];
  after = after_job m;
  changed = record (changed m (after_job m)) { update = true; database = m.job.has_changed_a_row };
}

abbrev pub when_scanned : ℕ → MachineState → Happening
when_scanned job m = if is_running job m then ends_scan m else nothing_happens m

-- whether a song is heard to its end under a profile: it plays or is in pause
abbrev pub hears_in : Profile → PlayState → Bool
hears_in Named state = false
hears_in Wide Stop = false
hears_in Wide Play = true
hears_in Wide Pause = true

-- an entry is of this song
abbrev pub is_entry_of : List ℕ → Option Entry → Bool
is_entry_of uri None = false
is_entry_of uri (Some entry) = bytes_eq entry.uri uri

abbrev pub hears : List ℕ → MachineState → Bool
hears uri m = hears_in m.saved.profile m.player.state && is_entry_of uri (current_entry m.saved.queue.entries m.player.current)

abbrev pub drops_heard : MachineState → RowChange → Bool
drops_heard m (Put row) = false
drops_heard m (Drop uri) = hears uri m

-- Of changes all but one that drops the song that is heard: it stays, though its file is gone, until a job finds it so once more.
abbrev pub spared : MachineState → List RowChange → List RowChange
spared m changes = filter (λ change. not (drops_heard m change)) changes

-- of changes those alone that put no row which the profile doesn't keep
abbrev pub kept_changes : Profile → List RowChange → List RowChange
kept_changes profile changes = filter (is_kept_change profile) changes

-- the changes that change a row at their turn, in their order; each finds the rows as those before it left them
abbrev pub telling : List Row → List RowChange → List RowChange
telling rows [] = []
telling rows (change ∷ changes) =
    let rest = telling (after_change rows change) changes in if changes_a_row (effect_of rows change) then change ∷ rest else rest

abbrev pub found_a_change : Job → Job
found_a_change job = record job { has_changed_a_row = true }

-- these changes are made by one op, behind the new random order that begins before it, if one does, and the player follows
abbrev pub changes_rows : List RowChange → MachineState → Happening
changes_rows changes m =
    let next = followed (Batch changes) m in
    let ops = order_ops next.order ++ Batch changes ∷ [] in
    let after = record m { saved = after_all ops m.saved; player = next.player; job = found_a_change m.job } in
    record { ops = ops; after = after; changed = changed m after }

abbrev pub finds : List RowChange → MachineState → Happening
finds [] m = nothing_happens m
finds (change ∷ changes) m = changes_rows (change ∷ changes) m

abbrev pub when_found : ℕ → List RowChange → MachineState → Happening
when_found job changes m =
    if is_running job m then if_room m (finds (telling m.saved.songs (kept_changes m.saved.profile (spared m changes))) m)
    else nothing_happens m
