-- Where the texts of a song's tags stand in their buffer.
use Rattle.std.specs.Prelude.{ℕ, ◌+◌, ◌*◌, ◌≤◌, List, length, map, slice_range}
use Rattle.std.specs.List.{All}
use Rattle.std.specs.Str.{IsCharBoundary}
use Rattle.song_files.specs.Limits.{MAX_TAG_BYTES}
use Rattle.song_files.specs.Tags.{TagText, AreTags}
use Rattle.song_files.specs.declared.tags.Place.{Place}

abbrev pub text_at : List ℕ → Place → TagText
text_at bytes place = record { tag = place.tag; text = slice_range bytes place.start (place.start + place.len) }

abbrev pub texts_at : List ℕ → List Place → List TagText
texts_at bytes places = map (text_at bytes) places

-- between two characters
pub record IsPlace (bytes : List ℕ) (place : Place) : Type 0 where
  pub start : IsCharBoundary bytes place.start
  pub end : IsCharBoundary bytes (place.start + place.len)

pub record ArePlaces (bytes : List ℕ) (places : List Place) : Type 0 where
  pub within : All (IsPlace bytes) places
  pub short : length bytes ≤ MAX_TAG_BYTES * length places
  pub tags : AreTags (texts_at bytes places)
