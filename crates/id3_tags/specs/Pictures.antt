-- The picture of a frame APIC, or PIC of version 2.2 (ID3v2.4.0 frames, section 4.14).
use Rattle.std.specs.Prelude.{ℕ, ◌+◌, ◌-◌, List, [], ◌∷◌, take, drop, length, Option, Some, None, option_map, option_and_then, codes}
use Rattle.std.specs.Prelude.{nat_lt, ◌||◌, Bool, slice_index, if◌then◌else◌}
use Rattle.std.specs.Str.{bytes_eq}
use Rattle.id3_tags.specs.Strings.{kept, texts_in, first_len}

-- a picture: its type (3 is the front cover), MIME type and description, and where its bytes stand in the source
pub record FramePicture : Type 0 where
  pub kind : ℕ
  pub mime : List ℕ
  pub description : List ℕ
  pub first : ℕ
  pub len : ℕ

-- frames with this id have pictures; that of 2.2 keeps its own id, since it is laid out otherwise
abbrev pub is_picture : List ℕ → Bool
is_picture id = bytes_eq id (codes "APIC") || bytes_eq id (codes "PIC ")

-- the MIME type of an image format of 2.2, or what stands there
abbrev pub mime_of_format : List ℕ → List ℕ
mime_of_format format =
    if bytes_eq format (codes "JPG") then codes "image/jpeg"
    else if bytes_eq format (codes "PNG") then codes "image/png"
    else kept format

-- how many bytes the MIME type has with the zero at its end; the format of 2.2 has three
abbrev pub mime_len : List ℕ → List ℕ → Option ℕ
mime_len id bytes = if bytes_eq id (codes "APIC") then first_len 0 bytes else Some 3

abbrev pub mime_in : List ℕ → List ℕ → ℕ → List ℕ
mime_in id bytes len = if bytes_eq id (codes "APIC") then kept (take (len - 1) bytes) else mime_of_format (take 3 bytes)

abbrev pub first_text : List (List ℕ) → List ℕ
first_text [] = []
first_text (t ∷ texts) = t

-- how many bytes the description has with its end; before it stand the MIME type and the picture's type
abbrev pub description_len : ℕ → List ℕ → ℕ → Option ℕ
description_len encoding bytes mime = if nat_lt mime (length bytes) then first_len encoding (drop (mime + 1) bytes) else None

-- behind the encoding stand the MIME type, the picture's type, the description, and the picture's bytes
abbrev pub picture_by : ℕ → List ℕ → List ℕ → ℕ → ℕ → ℕ → Option FramePicture
picture_by encoding id bytes first len mime =
    option_map (λ description. record {
      kind = slice_index bytes mime;
      mime = mime_in id bytes mime;
      description = first_text (texts_in encoding (drop (mime + 1) bytes));
      first = first + (2 + mime + description);
      len = len - (2 + mime + description);
    }) (description_len encoding bytes mime)

-- the picture of the frame with this id, whose data stand at `first` and have `len` bytes, by the front of the data
abbrev pub picture_of : List ℕ → ℕ → ℕ → List ℕ → Option FramePicture
picture_of id first len [] = None
picture_of id first len (encoding ∷ bytes) = option_and_then (picture_by encoding id bytes first len) (mime_len id bytes)
