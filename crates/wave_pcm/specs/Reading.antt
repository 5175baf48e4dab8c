-- The one reading of a WAVE file with the tags that are wanted, or the refusal that stands first in file order.
use Rattle.std.specs.Prelude.{◌≡◌, ℕ, ◌*◌, ◌/◌, List, length, take, drop, nat_lt, ◌&&◌, ◌||◌, Bool, codes}
use Rattle.std.specs.Prelude.{Option, Some, None, Result, Ok, Err, if◌then◌else◌, option_and_then, option_map}
use Rattle.std.specs.List.{find, filter_map}
use Rattle.std.specs.Str.{bytes_eq}
use Rattle.wave_pcm.specs.Parts.{Part, file_parts, is_format, is_data, is_id3, is_text}
use Rattle.wave_pcm.specs.Format.{format_from}
use Rattle.song_files.specs.Tags.{TagText, added}
use Rattle.song_files.specs.TagSet.{tags_in}
use Rattle.song_files.specs.declared.tag_set.TagSet.{TagSet}
use Rattle.wave_pcm.specs.Text.{tag_text}
use Rattle.song_files.specs.declared.tag.Tag.{Tag}
use Rattle.wave_pcm.specs.declared.format.Format.{Format}
use Rattle.wave_pcm.specs.declared.info.ChunkPlace.{ChunkPlace}
use Rattle.wave_pcm.specs.declared.info.WaveInfo.{WaveInfo}
use Rattle.wave_pcm.specs.declared.refusal.WaveError.{WaveError}
use Rattle.wave_pcm.specs.declared.refusal.WaveError.TheVariants.{NoMemory, NotWave, NoFormat, Unsupported, NoData, ReadFault, TooManyTurns}

infixl 10 ◌>>=◌
abbrev pub ◌>>=◌ : {A B : Type 0} → Result A WaveError → (A → Result B WaveError) → Result B WaveError
(Ok x) >>= f = f x
(Err e) >>= f = Err e

-- how many chunks a file may have, those inside lists counted
abbrev pub MAX_CHUNKS : ℕ
MAX_CHUNKS = 65536

-- more chunks than that
abbrev pub is_long : List Part → Bool
is_long parts = nat_lt MAX_CHUNKS (length parts)

-- a format, or data that has none before it
abbrev pub is_key : Part → Bool
is_key p = is_format p.kind || is_data p.kind

-- what the first of the two says; where there is none, one chunk too many stands before the end
abbrev pub format_at : Bool → Option Part → Result Format WaveError
format_at long None = if long then Err TooManyTurns else Err NoFormat
format_at long (Some p) = if is_format p.kind then format_from p.body else Err NoFormat

abbrev pub format_of : List Part → Result Format WaveError
format_of parts = format_at (is_long parts) (find is_key (take MAX_CHUNKS parts))

-- the first data
abbrev pub data_at : Bool → Option Part → Result Part WaveError
data_at long None = if long then Err TooManyTurns else Err NoData
data_at long (Some p) = if long then Err TooManyTurns else Ok p

abbrev pub data_of : List Part → Result Part WaveError
data_of parts = data_at (is_long parts) (find (λ p. is_data p.kind) parts)

-- the text that the first chunk of a tag gives
abbrev pub text_in : List Part → Tag → Option (List ℕ)
text_in parts tag = option_and_then (λ p. tag_text p.body) (find (λ p. is_text tag p.kind) parts)

-- texts with that of a tag, if there is one
abbrev pub with_found : List TagText → Tag → Option (List ℕ) → List TagText
with_found tags tag None = tags
with_found tags tag (Some text) = added tags tag text

abbrev pub found_text : List Part → Tag → Option TagText
found_text parts tag = option_map (λ text. record { tag = tag; text = text }) (text_in parts tag)

-- the texts of these tags
abbrev pub texts_for : List Part → List Tag → List TagText
texts_for parts tags = filter_map (found_text parts) tags

-- those of the tags that are wanted, in the order of their numbers
abbrev pub texts_in : List Part → TagSet → List TagText
texts_in parts wanted = texts_for parts (tags_in wanted)

-- whole frames of 16 bits a channel
abbrev pub frames_in : ℕ → List ℕ → ℕ
frames_in channels body = length body / (2 * channels)

abbrev pub info_of : Format → Part → List TagText → WaveInfo
info_of format sound texts = record {
  rate = format.rate;
  channels = format.channels;
  first_byte = sound.first;
  frames = frames_in
      format.channels sound.body;
  tags = texts;
}

unfoldable pub reading_of : List Part → TagSet → Result WaveInfo WaveError
reading_of parts wanted = do
  format ← format_of parts
  sound ← data_of parts
  Ok (info_of format sound (texts_in parts wanted))

-- `RIFF`, a size that isn't looked at, `WAVE`
abbrev pub is_wave : List ℕ → Bool
is_wave file = bytes_eq (take 4 file) (codes "RIFF") && bytes_eq (take 4 (drop 8 file)) (codes "WAVE")

unfoldable pub wave_reading : List ℕ → TagSet → Result WaveInfo WaveError
wave_reading file wanted = if is_wave file then reading_of (file_parts file) wanted else Err NotWave

-- where the data of a chunk stand in the file
abbrev pub place_of : Part → ChunkPlace
place_of p = record { first = p.first; len = length p.body }

-- where the first ID3v2 tag among the chunks of a file stands, which is none inside a list
abbrev pub id3_place : List Part → Option ChunkPlace
id3_place parts = option_map place_of (find (λ p. is_id3 p.kind) parts)

abbrev pub id3_chunk : List ℕ → Option ChunkPlace
id3_chunk file = id3_place (file_parts file)

-- an error that is a verdict on the file
abbrev pub IsVerdict : WaveError → Type 0
IsVerdict NoMemory = ⊥
IsVerdict NotWave = Unit {0}
IsVerdict NoFormat = Unit {0}
IsVerdict (Unsupported tag bits channels) = Unit {0}
IsVerdict NoData = Unit {0}
IsVerdict ReadFault = ⊥
IsVerdict TooManyTurns = Unit {0}

-- Memory was wanting, the source failed, or this is the refusal.
abbrev pub Refuses : {A : Type 0} → Result A WaveError → Type 0 → WaveError → Type 0
Refuses reading fault NoMemory = Unit {0}
Refuses reading fault NotWave = reading ≡ Err NotWave
Refuses reading fault NoFormat = reading ≡ Err NoFormat
Refuses reading fault (Unsupported tag bits channels) = reading ≡ Err (Unsupported tag bits channels)
Refuses reading fault NoData = reading ≡ Err NoData
Refuses reading fault ReadFault = fault
Refuses reading fault TooManyTurns = reading ≡ Err TooManyTurns
