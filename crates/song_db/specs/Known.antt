-- The rows that a scan is told of.
use Rattle.std.specs.Prelude.{ℕ, List, Option, map, filter}
use Rattle.song_db.specs.declared.known_song.KnownSong.{KnownSong}
use Rattle.song_db.specs.declared.rules.LibraryRules.{LibraryRules}
use Rattle.song_db.specs.Row.{Row, kept_stamp}
use Rattle.song_db.specs.Scan.{is_in}

-- a song by its URI, with its stamp where the rules keep them
abbrev pub known_song : LibraryRules → Row → KnownSong
known_song rules row = record { uri = row.uri; stamp = kept_stamp rules row.stamp }

-- the songs in the job's place, the song of that very URI included
abbrev pub known_in : LibraryRules → List Row → Option (List ℕ) → List KnownSong
known_in rules rows place = map (known_song rules) (filter (λ row. is_in place row.uri) rows)
