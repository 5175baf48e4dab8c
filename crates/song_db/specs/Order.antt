-- What a scan is to read.
use Rattle.std.specs.Prelude.{ℕ, List, Option, None}
use Rattle.song_db.specs.declared.known_song.KnownSong.{KnownSong}
use Rattle.song_db.specs.declared.rules.LibraryRules.{LibraryRules}
use Rattle.song_db.specs.Replaced.{IsRising}

-- the job's number; the folder or song, or none for the root; the rules of the library; and the songs known there, rising
pub record Order : Type 0 where
  pub job : ℕ
  pub uri : Option (List ℕ)
  pub rules : LibraryRules
  pub known : List KnownSong

abbrev pub AreKnown : List (List ℕ) → Type 0
AreKnown uris = IsRising (λ uri. uri) uris

-- a known song whose file is opened, whatever its stamp is
abbrev pub without_stamp : KnownSong → KnownSong
without_stamp song = record { uri = song.uri; stamp = None }
