-- What is answered of a picture.
use Rattle.std.specs.Prelude.{ℕ, min, List, length, nat_lt, Option, Some, None, if◌then◌else◌}
use Rattle.covers.specs.Asked.{AskedPicture, ToldChunk}
use Rattle.covers.specs.Chunks.{chunk_of}
use Rattle.covers.specs.Limits.{MAX_CHUNK_LEN}
use Rattle.covers.specs.declared.asked.PictureAnswer.{PictureAnswer}
use Rattle.covers.specs.declared.asked.PictureAnswer.TheVariants.{NoPicture, PastEnd, Chunk}

-- a picture: its MIME type, empty where that isn't known, and its bytes
pub record Picture : Type 0 where
  pub mime : List ℕ
  pub bytes : List ℕ

-- how many bytes are told at most
abbrev pub most_of : AskedPicture → ℕ
most_of ask = min ask.limit MAX_CHUNK_LEN

-- the bytes that are asked for
abbrev pub told_chunk : Picture → AskedPicture → ToldChunk
told_chunk picture ask =
    record { size = length picture.bytes; mime = picture.mime; bytes = chunk_of picture.bytes ask.offset (most_of ask) }

-- the answer where there is a picture
abbrev pub answer_in : Picture → AskedPicture → PictureAnswer
answer_in picture ask = if nat_lt (length picture.bytes) ask.offset then PastEnd else Chunk (told_chunk picture ask)

abbrev pub answer_of : Option Picture → AskedPicture → PictureAnswer
answer_of None ask = NoPicture
answer_of (Some picture) ask = answer_in picture ask
