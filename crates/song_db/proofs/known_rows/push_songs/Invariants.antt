use Rattle.std.proofs.Common.{◌≡◌, ◌++◌, map, take}
use Rattle.song_db.specs.Known.{known_song}
use Rattle.song_db.proofs.known_rows.push_songs.Given as goal

-- those of the first rows
abbrev pub invariant-loop-row : goal.invariant-loop-row
invariant-loop-row l = l.known.items ≡ l.initial.known.items ++ map (known_song l.rules) (take l.row-index l.rows)
