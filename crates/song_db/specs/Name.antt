-- The names of songs.
use Rattle.std.specs.Prelude.{ℕ, Bool, ◌&&◌, ◌==◌, nat_le, List, count_by}
use Rattle.song_db.specs.declared.rules.LibraryRules.{LibraryRules}
use Rattle.song_db.specs.Endings.{is_named}
use Rattle.song_db.specs.Limits.{MAX_FOLDERS}

-- how many folders a path names over what it ends in
abbrev pub folders_over : List ℕ → ℕ
folders_over path = count_by (λ b. b == 47) path

-- a song's name has one of the endings of the library
abbrev pub is_song : LibraryRules → List ℕ → Bool
is_song rules path = is_named rules.endings path && nat_le (folders_over path) MAX_FOLDERS
