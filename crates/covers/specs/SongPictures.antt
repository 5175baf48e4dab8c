-- The picture that a song's file has inside: that of the ID3v2 tag in its first chunk `id3 `.
use Rattle.std.specs.Prelude.{ℕ, ◌+◌, ◌==◌, ◌&&◌, not, nat_lt, nat_le, Bool, List, [], length, codes}
use Rattle.std.specs.Prelude.{Option, Some, None, option_map, Result, Ok, Err}
use Rattle.std.specs.List.{find}
use Rattle.std.specs.Option.{option_or}
use Rattle.std.specs.Str.{bytes_eq}
use Rattle.song_files.specs.declared.tag_set.TheConstants.TagSet.{NONE}
use Rattle.wave_pcm.specs.Reading.{id3_chunk, wave_reading}
use Rattle.wave_pcm.specs.declared.info.ChunkPlace.{ChunkPlace}
use Rattle.wave_pcm.specs.declared.info.WaveInfo.{WaveInfo}
use Rattle.wave_pcm.specs.declared.refusal.WaveError.{WaveError}
use Rattle.id3_tags.specs.Pictures.{FramePicture}
use Rattle.id3_tags.specs.Reading.{tag_in}
use Rattle.id3_tags.specs.declared.tag.Id3Tag.{Id3Tag}
use Rattle.covers.specs.Limits.{MAX_PICTURE_LEN}

-- a picture: its MIME type, and where its bytes stand in the file
pub record PictureInside : Type 0 where
  pub mime : List ℕ
  pub first : ℕ
  pub len : ℕ

-- a MIME type that says that not a picture but its address stands there (ID3v2.4.0 frames, section 4.14)
abbrev pub is_address : List ℕ → Bool
is_address mime = bytes_eq mime (codes "-->")

-- a picture that can be told: it has bytes, not too many, and they stand in a file of this length
abbrev pub is_told : ℕ → FramePicture → Bool
is_told end picture =
    not (is_address picture.mime) && nat_lt 0 picture.len && nat_le picture.len MAX_PICTURE_LEN && nat_le (picture.first + picture.len) end

-- one that shows the front
abbrev pub is_told_front : ℕ → FramePicture → Bool
is_told_front end picture = picture.kind == 3 && is_told end picture

-- the first front cover, else the first picture
abbrev pub cover_among : ℕ → List FramePicture → Option FramePicture
cover_among end pictures = option_or (find (is_told_front end) pictures) (find (is_told end) pictures)

-- the pictures of the tag that stands at a place
abbrev pub pictures_of : Option Id3Tag → List FramePicture
pictures_of None = []
pictures_of (Some tag) = tag.pictures

abbrev pub pictures_at : List ℕ → Option ChunkPlace → List FramePicture
pictures_at file None = []
pictures_at file (Some place) = pictures_of (tag_in file place.first (place.first + place.len))

abbrev pub inside : FramePicture → PictureInside
inside picture = record { mime = picture.mime; first = picture.first; len = picture.len }

-- what is told of the pictures of the tag there
abbrev pub told_in : List ℕ → Option ChunkPlace → Option PictureInside
told_in file place = option_map inside (cover_among (length file) (pictures_at file place))

abbrev pub told_by : List ℕ → Result WaveInfo WaveError → Option PictureInside
told_by file (Ok info) = told_in file (id3_chunk file)
told_by file (Err error) = None

-- the picture of a song's file; one that isn't read as a WAVE file has none
abbrev pub song_picture : List ℕ → Option PictureInside
song_picture file = told_by file (wave_reading file NONE)
