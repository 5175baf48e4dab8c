-- What a reader finds in the WAVE file that a FLAC file stands for.
use Rattle.std.specs.Prelude.{◌≡◌, ℕ, ◌+◌, List, [], Bool, option_map, Option, Some, Ok, true}
use Rattle.wave_pcm.specs.Reading.{id3_chunk}
use Rattle.wave_pcm.specs.declared.info.ChunkPlace.{ChunkPlace}
use Rattle.wave_pcm.specs.declared.info.WaveInfo.{WaveInfo}
use Rattle.id3_tags.specs.Reading.{tag_in}
use Rattle.id3_tags.specs.Writing.{WrittenPicture, can_write, tag_given}
use Rattle.flac.specs.Reading.{flac_reading}
use Rattle.flac.specs.declared.head.FlacHead.{FlacHead}
use Rattle.as_wave.specs.FlacTag.{texts_for, cover_of, front_of}
use Rattle.as_wave.specs.FlacWave.{flac_format, flac_wave}
use Rattle.as_wave.specs.OwnHead.{own_info}

-- the file has this head, and stands for this WAVE file
pub record IsFlac (file wave : List ℕ) (head : FlacHead) : Type 0 where
  pub read : flac_reading file ≡ Ok head
  pub made : flac_wave file ≡ Some wave

-- STREAMINFO's rate, channels and frames, and no text of a list
abbrev pub flac_info : FlacHead → WaveInfo
flac_info head = own_info (flac_format head.info) head.info.samples []

-- the picture that the tag tells
abbrev pub told_picture : List ℕ → FlacHead → Option WrittenPicture
told_picture file head = option_map front_of (cover_of file head)

-- the tag can be written
abbrev pub has_tag : List ℕ → FlacHead → Bool
has_tag file head = can_write (texts_for head.comments) (told_picture file head)

-- the tag stands there in the WAVE file, and tells the comments and the picture
pub record IsTold (file wave : List ℕ) (head : FlacHead) (place : ChunkPlace) : Type 0 where
  pub stands : id3_chunk wave ≡ Some place
  pub told : tag_in wave place.first (place.first + place.len) ≡ Some (tag_given (texts_for head.comments) (told_picture file head) place.first)
