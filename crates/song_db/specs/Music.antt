-- The music that a scan looks at.
use Rattle.std.specs.Prelude.{ℕ, Bool, ◌&&◌, List, Option, map, option_map, option_and_then, is_some}
use Rattle.std.specs.List.{find}
use Rattle.std.specs.Result.{result_ok}
use Rattle.std.specs.Str.{bytes_eq}
use Rattle.song_files.specs.Folder.{File, bytes_at, stamp_at}
use Rattle.song_files.specs.declared.folder.FileStamp.{FileStamp}
use Rattle.song_head.specs.SongReading.{song_reading}
use Rattle.song_db.specs.declared.known_song.KnownSong.{KnownSong}
use Rattle.song_db.specs.declared.rules.LibraryRules.{LibraryRules}
use Rattle.song_db.specs.Row.{Row, row_of, kept_stamp}
use Rattle.song_db.specs.Same.{same_stamp}

-- the rules of the library, the songs that the order knows, and the files that there are
pub record Music : Type 0 where
  pub rules : LibraryRules
  pub known : List KnownSong
  pub files : List File

abbrev pub music_of : LibraryRules → List KnownSong → List File → Music
music_of rules known files = record { rules = rules; known = known; files = files }

abbrev pub uris_of : List KnownSong → List (List ℕ)
uris_of known = map (λ (song : KnownSong). song.uri) known

-- the row of the bytes under a URI, where they are a song's file
abbrev pub song_in : LibraryRules → Option FileStamp → List ℕ → List ℕ → Option Row
song_in rules stamp uri bytes =
    option_map (λ info. row_of uri info (kept_stamp rules stamp)) (result_ok (song_reading bytes rules.reading))

abbrev pub song_at : Music → List ℕ → Option Row
song_at music uri = option_and_then (song_in music.rules (stamp_at music.files uri) uri) (bytes_at music.files uri)

-- the stamp with which a song is known
abbrev pub known_stamp : List KnownSong → List ℕ → Option FileStamp
known_stamp known uri = option_and_then (λ (song : KnownSong). song.stamp) (find (λ (song : KnownSong). bytes_eq uri song.uri) known)

-- there is one, and it is this
abbrev pub is_stamp : Option FileStamp → Option FileStamp → Bool
is_stamp stamp other = is_some stamp && same_stamp stamp other

-- a song is known with the stamp that its file has
abbrev pub is_unchanged : Music → List ℕ → Bool
is_unchanged music uri = music.rules.keeps_stamps && is_stamp (known_stamp music.known uri) (stamp_at music.files uri)
