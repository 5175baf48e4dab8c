use Rattle.std.proofs.Common.{◌≤◌, length}
use Rattle.std.specs.List.{AllWithin}
use Rattle.song_db.specs.Replaced.{IsNotBefore}
use Rattle.song_db.specs.Told.{told_key}
use Rattle.song_db.proofs.told_near.span_down.Given as goal

-- no song from here on is told before this one
abbrev pub invariant-steps : goal.invariant-steps
invariant-steps g l = record {
  within : l.high ≤ length l.told;
  some : 1 ≤ l.step;
  behind : AllWithin (IsNotBefore g.T.ToldSong.key (told_key l.row)) l.told l.high (length l.told);
}

abbrev pub decreases-steps : goal.decreases-steps
decreases-steps g l = l.high
