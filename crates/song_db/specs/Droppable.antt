-- Marks at known URIs.
use Rattle.std.specs.Prelude.{◌≡◌, ℕ, ◌≤◌, Bool, List, [], ◌∷◌, length, if◌then◌else◌}
use Rattle.song_db.specs.declared.known_song.KnownSong.{KnownSong}
use Rattle.song_db.specs.Order.{AreKnown}

-- the URIs whose mark is set
abbrev pub picked : List (List ℕ) → List Bool → List (List ℕ)
picked [] marks = []
picked (uri ∷ uris) [] = []
picked (uri ∷ uris) (mark ∷ marks) = if mark then uri ∷ picked uris marks else picked uris marks

-- the known songs, and the URIs of those that may still be dropped
pub record Marked : Type 0 where
  pub known : List KnownSong
  pub left : List (List ℕ)

-- each of the rising URIs has a mark
pub record AreMarked (uris : List (List ℕ)) (marks : List Bool) (at : ℕ) : Type 0 where
  pub rising : AreKnown uris
  pub each : length marks ≡ length uris
  pub within : at ≤ length uris
