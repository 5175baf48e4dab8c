use Rattle.std.proofs.Common.{◌≡◌, drop}
use Rattle.std.specs.List.{find}
use Rattle.covers.specs.SongPictures.{is_told_front}
use Rattle.covers.proofs.song.first_front.Given as goal

-- the pictures that are left decide
abbrev pub invariant-loop-picture : goal.invariant-loop-picture
invariant-loop-picture l = find (is_told_front l.end) (drop l.picture-index l.pictures) ≡ find (is_told_front l.end) l.pictures
