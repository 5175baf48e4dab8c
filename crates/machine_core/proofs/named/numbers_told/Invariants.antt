use Rattle.std.proofs.Common.{◌≡◌, map, take}
use Rattle.song_db.specs.Row.{row_uri}
use Rattle.machine_core.specs.Named.{numbers_of}
use Rattle.machine_core.proofs.named.numbers_told.Given as goal

abbrev pub invariant-loop-row : goal.invariant-loop-row
invariant-loop-row l = l.numbers.items ≡ numbers_of l.songs (map row_uri (take l.row-index l.rows))
