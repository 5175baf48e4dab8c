-- One chunk of a picture.
use Rattle.std.specs.Prelude.{ℕ, ◌+◌, List, take, drop, slice_range, nat_le, Option, Some, None, if◌then◌else◌}
use Rattle.covers.specs.Limits.{MAX_PICTURE_LEN}
use Rattle.covers.specs.declared.place.PicturePlace.{PicturePlace}

-- a file of this length as a picture, unless it has too many bytes
abbrev pub whole_file : ℕ → Option PicturePlace
whole_file len = if nat_le len MAX_PICTURE_LEN then Some (record { first = 0; len = len }) else None

-- the bytes of a picture
abbrev pub picture_bytes : List ℕ → PicturePlace → List ℕ
picture_bytes file place = slice_range file place.first (place.first + place.len)

-- those from an offset on, as many as there are and are allowed
abbrev pub chunk_of : List ℕ → ℕ → ℕ → List ℕ
chunk_of picture offset limit = take limit (drop offset picture)
