use Rattle.std.proofs.Common.{◌-◌, ◌≤◌, length}
use Rattle.std.specs.List.{AllWithin}
use Rattle.song_db.specs.Replaced.{IsBefore}
use Rattle.song_db.specs.Row.{row_uri}
use Rattle.song_db.proofs.near.span_up.Given as goal

-- all rows so far are before the URI
abbrev pub invariant-steps : goal.invariant-steps
invariant-steps l = record {
  within : l.low ≤ length l.rows;
  some : 1 ≤ l.step;
  before : AllWithin (IsBefore row_uri l.uri) l.rows 0 l.low;
}

abbrev pub decreases-steps : goal.decreases-steps
decreases-steps l = length l.rows - l.low
