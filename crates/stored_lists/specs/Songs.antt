-- Edits of the songs of one playlist.
use Rattle.std.specs.Prelude.{ℕ, List, [], ◌++◌, IsTrue, take, drop, remove, insert, slice_index_or}
use Rattle.std.specs.List.{All}
use Rattle.song_db.specs.Uri.{is_uri}

-- the songs of a playlist, as bytes
abbrev pub Uris : Type 0
Uris = List (List ℕ)

-- each has the form of a URI
abbrev pub AreUris : Uris → Type 0
AreUris songs = All (λ uri. IsTrue (is_uri uri)) songs

-- the songs outside of a range
abbrev pub without_range : Uris → ℕ → ℕ → Uris
without_range songs start end = take start songs ++ drop end songs

-- the song at place `from` is taken out, and put back so that it stands at place `to`
abbrev pub moved : Uris → ℕ → ℕ → Uris
moved songs from to = insert (remove songs from) to (slice_index_or songs from [])
