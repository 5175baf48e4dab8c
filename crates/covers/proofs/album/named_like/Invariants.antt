use Rattle.std.proofs.Common.{◌≡◌, drop}
use Rattle.std.specs.List.{find}
use Rattle.covers.specs.AlbumNames.{is_named_like}
use Rattle.covers.proofs.album.named_like.Given as goal

-- the entries that are left decide
abbrev pub invariant-loop-entry : goal.invariant-loop-entry
invariant-loop-entry l = find (is_named_like l.name) (drop l.entry-index l.entries) ≡ find (is_named_like l.name) l.entries
