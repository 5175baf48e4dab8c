use Rattle.std.proofs.Common.{◌≡◌, drop}
use Rattle.std.specs.List.{find}
use Rattle.as_wave.specs.FlacTag.{is_cover}
use Rattle.as_wave.proofs.flac_tag.first_cover.Given as goal

-- the pictures that are left decide
abbrev pub invariant-loop-picture : goal.invariant-loop-picture
invariant-loop-picture l = find (is_cover l.end) (drop l.picture-index l.pictures) ≡ find (is_cover l.end) l.pictures
