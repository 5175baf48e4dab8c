use Rattle.std.proofs.Common.{◌≤◌, length}
use Rattle.std.specs.List.{AllWithin}
use Rattle.song_db.specs.Replaced.{IsNotBefore}
use Rattle.song_db.specs.Row.{row_uri}
use Rattle.song_db.proofs.near.span_down.Given as goal

-- no row from here on is before the URI
abbrev pub invariant-steps : goal.invariant-steps
invariant-steps l = record {
  within : l.high ≤ length l.rows;
  some : 1 ≤ l.step;
  behind : AllWithin (IsNotBefore row_uri l.uri) l.rows l.high (length l.rows);
}

abbrev pub decreases-steps : goal.decreases-steps
decreases-steps l = l.high
