-- Changes of a batch that put another row in the place of a song's, or drop one.
use Rattle.std.specs.Prelude.{ℕ, Bool, true, false, ◌==◌, List, count_by, Option, Some, None, if◌then◌else◌}
use Rattle.machine_core.specs.declared.job.WithheldJob.{WithheldJob}
use Rattle.song_db.specs.Row.{Row, row_at}
use Rattle.song_db.specs.declared.change.RowChange.{RowChange}
use Rattle.song_db.specs.declared.change.RowChange.TheVariants.{Put, Drop}
use Rattle.state_codec.specs.RowSteps.{says_other}

abbrev pub replaces : List Row → RowChange → Bool
replaces songs (Put row) = says_other row (row_at songs row.uri)
replaces songs (Drop uri) = false

abbrev pub count_replaced : List Row → List RowChange → ℕ
count_replaced songs changes = count_by (replaces songs) changes

abbrev pub drops : RowChange → Bool
drops (Put row) = false
drops (Drop uri) = true

abbrev pub count_dropped : List RowChange → ℕ
count_dropped changes = count_by drops changes

-- how many songs this job missed, and of how many, where it dropped none because they were too many
abbrev pub missed_by : ℕ → Option WithheldJob → Option (ℕ × ℕ)
missed_by job None = None
missed_by job (Some withheld) = if withheld.number == job then Some (withheld.missing, withheld.songs) else None
