-- The pictures of PICTURE blocks (RFC 9639, section 8.8): a type, the media type behind its length, the description behind its length,
-- width, height, depth and colours in four bytes each, and the picture's bytes behind their length.
use Rattle.std.specs.Prelude.{ℕ, ◌+◌, ◌==◌, ◌&&◌, nat_le, List, length, take, drop, Bool, Option, Some, None, option_and_then, if◌then◌else◌}
use Rattle.std.specs.List.{filter_map}
use Rattle.flac.specs.Blocks.{body_of}
use Rattle.flac.specs.Comments.{is_printable}
use Rattle.flac.specs.Limits.{MAX_PICTURES, MAX_MEDIA_TYPE_BYTES}
use Rattle.flac.specs.Numbers.{be32}
use Rattle.flac.specs.declared.blocks.BlockHead.{BlockHead}
use Rattle.flac.specs.declared.pictures.Lengths.{Lengths}

-- a picture: its type, its media type, where its bytes begin in the file and how many there are
pub record PicturePlace : Type 0 where
  pub kind : ℕ
  pub media_type : List ℕ
  pub first : ℕ
  pub len : ℕ

-- the lengths of the media type, of the description behind it, and of the bytes behind both
abbrev pub media_len : List ℕ → ℕ
media_len body = be32 (drop 4 body)

abbrev pub text_len : ℕ → List ℕ → ℕ
text_len media body = be32 (drop (8 + media) body)

abbrev pub data_len : ℕ → ℕ → List ℕ → ℕ
data_len media text body = be32 (drop (28 + media + text) body)

abbrev pub lengths_by : List ℕ → ℕ → ℕ → ℕ → Option Lengths
lengths_by body media text len = if nat_le (32 + media + text + len) (length body) then Some (record {
  media = media;
  text = text;
  len = len;
}) else None

-- the lengths of the parts, if the data of the block holds them all
unfoldable pub lengths_in : List ℕ → Option Lengths
lengths_in body =
    lengths_by body (media_len body) (text_len (media_len body) body) (data_len (media_len body) (text_len (media_len body) body) body)

-- the media type is of at most 255 printable ASCII characters
abbrev pub is_media_type : List ℕ → Bool
is_media_type name = nat_le (length name) MAX_MEDIA_TYPE_BYTES && is_printable name

abbrev pub media_type_of : List ℕ → Option (List ℕ)
media_type_of name = if is_media_type name then Some name else None

-- the picture whose parts have these lengths, where the data of its block begins at `first`
unfoldable pub picture_by : ℕ → List ℕ → Lengths → Option PicturePlace
picture_by first body lengths = if is_media_type (take lengths.media (drop 8 body)) then Some (record {
  kind = be32 body;
  media_type = take lengths.media (drop 8 body);
  first = first + (32 + lengths.media + lengths.text);
  len = lengths.len;
}) else None

-- the picture in the data of a block; a block whose data doesn't hold one is passed by
abbrev pub picture_in : ℕ → List ℕ → Option PicturePlace
picture_in first body = option_and_then (picture_by first body) (lengths_in body)

-- PICTURE has type 6
abbrev pub is_picture : BlockHead → Bool
is_picture block = block.kind == 6

abbrev pub picture_of : List ℕ → BlockHead → Option PicturePlace
picture_of file block = if is_picture block then picture_in block.first (body_of file block) else None

-- the first 16 are kept
abbrev pub pictures_of : List ℕ → List BlockHead → List PicturePlace
pictures_of file blocks = take MAX_PICTURES (filter_map (picture_of file) blocks)
