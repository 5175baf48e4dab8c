use Rattle.std.proofs.Common.{◌≡◌, ◌++◌, take}
use Rattle.stored_lists.proofs.songs.clone_all.Given as goal

abbrev pub invariant-loop-uri : goal.invariant-loop-uri
invariant-loop-uri l = l.copies.items ≡ l.initial.copies.items ++ take l.uri-index l.uris
