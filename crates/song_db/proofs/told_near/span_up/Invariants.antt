use Rattle.std.proofs.Common.{◌-◌, ◌≤◌, length}
use Rattle.std.specs.List.{AllWithin}
use Rattle.song_db.specs.Replaced.{IsBefore}
use Rattle.song_db.specs.Told.{told_key}
use Rattle.song_db.proofs.told_near.span_up.Given as goal

-- all songs so far are told before this one
abbrev pub invariant-steps : goal.invariant-steps
invariant-steps g l = record {
  within : l.low ≤ length l.told;
  some : 1 ≤ l.step;
  before : AllWithin (IsBefore g.T.ToldSong.key (told_key l.row)) l.told 0 l.low;
}

abbrev pub decreases-steps : goal.decreases-steps
decreases-steps g l = length l.told - l.low
