-- The chunks of a WAVE file in the order of their heads, those inside a list of texts after the list.
use Rattle.std.specs.Prelude.{ℕ, ◌+◌, List, [], ◌∷◌, ◌&&◌, ◌||◌, length, take, drop, map, Bool, true, false, codes, Option, Some, None}
use Rattle.std.specs.Prelude.{if◌then◌else◌}
use Rattle.std.specs.List.{flat_map}
use Rattle.std.specs.Str.{bytes_eq}
use Rattle.wave_pcm.specs.Chunks.{Chunk, chunks_after, chunks_in}
use Rattle.song_files.specs.Tag.{is_tag, info_tag}
use Rattle.song_files.specs.declared.tag.Tag.{Tag}
use Rattle.wave_pcm.specs.declared.parts.Kind.{Kind}
use Rattle.wave_pcm.specs.declared.parts.Kind.TheVariants.{Format, Data, Nested, Text, Id3, Other}

-- what a chunk is, where its data begins in the file, and its data
pub record Part : Type 0 where
  pub kind : Kind
  pub first : ℕ
  pub body : List ℕ

-- what the id of a chunk of the file means
abbrev pub file_kind : List ℕ → Kind
file_kind id =
    if bytes_eq id (codes "fmt ") then Format
    else if bytes_eq id (codes "data") then Data
    else if bytes_eq id (codes "LIST") then Nested
    else if bytes_eq id (codes "id3 ") || bytes_eq id (codes "ID3 ") then Id3
    else Other

abbrev pub kind_by : Option Tag → Kind
kind_by None = Other
kind_by (Some tag) = Text tag

-- what the id of a chunk inside a list of texts means
abbrev pub text_kind : List ℕ → Kind
text_kind id = kind_by (info_tag id)

abbrev pub file_part : Chunk → Part
file_part c = record { kind = file_kind c.id; first = c.first; body = c.body }

abbrev pub text_part : Chunk → Part
text_part c = record { kind = text_kind c.id; first = c.first; body = c.body }

-- a list of texts has `INFO` in front of its chunks
abbrev pub is_info : List ℕ → Bool
is_info body = bytes_eq (take 4 body) (codes "INFO")

abbrev pub is_nested : Kind → Bool
is_nested Format = false
is_nested Data = false
is_nested Nested = true
is_nested (Text tag) = false
is_nested Id3 = false
is_nested Other = false

-- a list of texts, by its id and the front of its data
abbrev pub is_text_list : Kind → List ℕ → Bool
is_text_list kind body = is_nested kind && is_info body

-- a chunk, and the chunks inside it if it is a list of texts
abbrev pub parts_of : Chunk → List Part
parts_of c = file_part c ∷ (if is_text_list (file_kind c.id) c.body then map text_part (chunks_after 0 (c.first + 4) (drop 4
    c.body)) else [])

-- The parts from `at` up to `end`. The chunks of a WAVE file begin behind its 12 bytes `RIFF`, size, `WAVE`.
abbrev pub parts_in : List ℕ → ℕ → ℕ → List Part
parts_in file at end = flat_map parts_of (chunks_in file at end)

abbrev pub file_parts : List ℕ → List Part
file_parts file = parts_in file 12 (length file)

abbrev pub is_format : Kind → Bool
is_format Format = true
is_format Data = false
is_format Nested = false
is_format (Text tag) = false
is_format Id3 = false
is_format Other = false

abbrev pub is_data : Kind → Bool
is_data Format = false
is_data Data = true
is_data Nested = false
is_data (Text tag) = false
is_data Id3 = false
is_data Other = false

abbrev pub is_text : Tag → Kind → Bool
is_text tag Format = false
is_text tag Data = false
is_text tag Nested = false
is_text tag (Text own) = is_tag tag own
is_text tag Id3 = false
is_text tag Other = false

abbrev pub is_id3 : Kind → Bool
is_id3 Format = false
is_id3 Data = false
is_id3 Nested = false
is_id3 (Text tag) = false
is_id3 Id3 = true
is_id3 Other = false
