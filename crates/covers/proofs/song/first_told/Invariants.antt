use Rattle.std.proofs.Common.{◌≡◌, drop}
use Rattle.std.specs.List.{find}
use Rattle.covers.specs.SongPictures.{is_told}
use Rattle.covers.proofs.song.first_told.Given as goal

-- the pictures that are left decide
abbrev pub invariant-loop-picture : goal.invariant-loop-picture
invariant-loop-picture l = find (is_told l.end) (drop l.picture-index l.pictures) ≡ find (is_told l.end) l.pictures
