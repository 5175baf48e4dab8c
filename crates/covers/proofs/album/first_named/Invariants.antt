use Rattle.std.proofs.Common.{◌≡◌, drop}
use Rattle.covers.specs.AlbumNames.{album_names, first_named, is_named}
use Rattle.covers.proofs.FirstNames.{given}
use Rattle.covers.proofs.album.first_named.Given as goal

-- the names that are left decide
abbrev pub invariant-loop-name : goal.invariant-loop-name
invariant-loop-name l = given is_named l.entries (drop l.name-index l.name-items) ≡ first_named is_named l.entries album_names
