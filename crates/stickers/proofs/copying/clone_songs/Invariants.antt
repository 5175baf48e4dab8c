use Rattle.std.proofs.Common.{◌≡◌, ◌++◌}
use Rattle.stickers.specs.ByName.{by_name}
use Rattle.stickers.proofs.copying.clone_songs.Given as goal

-- what is copied so far, and what is left
abbrev pub invariant-loop-uri : goal.invariant-loop-uri
invariant-loop-uri l = by_name l.copy.entries ++ by_name l.uri-iterator ≡ by_name l.songs.entries
