use Rattle.std.proofs.Common.{◌≡◌, drop}
use Rattle.std.specs.List.{find}
use Rattle.covers.specs.AlbumNames.{is_named}
use Rattle.covers.proofs.album.named.Given as goal

-- the entries that are left decide
abbrev pub invariant-loop-entry : goal.invariant-loop-entry
invariant-loop-entry l = find (is_named l.name) (drop l.entry-index l.entries) ≡ find (is_named l.name) l.entries
