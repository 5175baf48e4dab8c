-- The WAVE file of 16-bit PCM that a file stands for.
use Rattle.std.specs.Prelude.{ℕ, ◌*◌, ◌%◌, ◌^◌, List, ◌++◌, length, filter, replicate, nat_lt, nat_le, ◌&&◌, ◌||◌, Bool, codes}
use Rattle.std.specs.Prelude.{Option, Some, None, option_and_then, if◌then◌else◌}
use Rattle.std.specs.List.{find, flat_map}
use Rattle.std.specs.Str.{bytes_eq}
use Rattle.std.specs.Int.{w16, w32, to_le_bytes}
use Rattle.wave_pcm.specs.Chunks.{Chunk, chunks_in}
use Rattle.wave_pcm.specs.Reading.{MAX_CHUNKS, is_wave}
use Rattle.as_wave.specs.Format.{sample_format}
use Rattle.as_wave.specs.Samples.{bytes_of, sound_in}
use Rattle.as_wave.specs.declared.format.SampleFormat.{SampleFormat}

-- a chunk of a RIFF file: its id, the size of its data, the data, and a pad byte after an odd size
abbrev pub chunk_bytes : List ℕ → List ℕ → List ℕ
chunk_bytes id body = id ++ to_le_bytes w32 (length body) ++ body ++ replicate (length body % 2) 0

-- the data of the chunk `fmt ` of 16-bit PCM: the tag, the channels, the rate, the bytes a second, the block align, the bits
abbrev pub format_bytes : SampleFormat → List ℕ
format_bytes format =
    to_le_bytes w16 1 ++ to_le_bytes w16 format.channels ++ to_le_bytes w32 format.rate ++ to_le_bytes w32 (format.rate * (2 *
    format.channels)) ++ to_le_bytes w16 (2 * format.channels) ++ to_le_bytes w16 16

-- chunks one after the other
abbrev pub chunks_bytes : List Chunk → List ℕ
chunks_bytes chunks = flat_map (λ (c : Chunk). chunk_bytes c.id c.body) chunks

-- what stands in the WAVE file of a format, the data of its samples and further chunks
unfoldable pub riff_data : SampleFormat → List ℕ → List Chunk → List ℕ
riff_data format sound further =
    codes "WAVE" ++ chunk_bytes (codes "fmt ") (format_bytes format) ++ chunk_bytes (codes "data") sound ++ chunks_bytes further

-- the ids of formats, data, and chunks that texts stand in: these last are kept
abbrev pub is_format_id : List ℕ → Bool
is_format_id id = bytes_eq id (codes "fmt ")

abbrev pub is_data_id : List ℕ → Bool
is_data_id id = bytes_eq id (codes "data")

abbrev pub is_kept_id : List ℕ → Bool
is_kept_id id = bytes_eq id (codes "LIST") || bytes_eq id (codes "id3 ") || bytes_eq id (codes "ID3 ")

abbrev pub is_key : Chunk → Bool
is_key c = is_format_id c.id || is_data_id c.id

-- the format by the first chunk `fmt `, with no data before it
abbrev pub format_in : List Chunk → Option SampleFormat
format_in chunks =
    option_and_then (λ (c : Chunk). if is_format_id c.id then sample_format c.body else None) (find is_key chunks)

-- the first data
abbrev pub data_in : List Chunk → Option Chunk
data_in chunks = find (λ (c : Chunk). is_data_id c.id) chunks

abbrev pub kept_in : List Chunk → List Chunk
kept_in chunks = filter (λ (c : Chunk). is_kept_id c.id) chunks

-- how many of these a file may have
abbrev pub MAX_KEPT : ℕ
MAX_KEPT = 64

-- a RIFF file, whose size has to fit its field
abbrev pub riff_file : List ℕ → Option (List ℕ)
riff_file body = if nat_lt (length body) (2 ^ 32) then Some (chunk_bytes (codes "RIFF") body) else None

-- the WAVE file of the samples of a format in these bytes, with chunks behind them
unfoldable pub wave_with : SampleFormat → List ℕ → List Chunk → Option (List ℕ)
wave_with format body further = riff_file (riff_data format (bytes_of (sound_in format body)) further)

-- the WAVE file by the chunks of a file
unfoldable pub wave_by : List Chunk → Option (List ℕ)
wave_by chunks =
    if nat_le (length chunks) MAX_CHUNKS && nat_le (length (kept_in chunks)) MAX_KEPT
    then option_and_then (λ format. option_and_then (λ (c : Chunk). wave_with format c.body (kept_in chunks))
    (data_in chunks)) (format_in chunks)
    else None

-- the chunks of a WAVE file begin behind its 12 bytes `RIFF`, size, `WAVE`
abbrev pub file_chunks : List ℕ → List Chunk
file_chunks file = chunks_in file 12 (length file)

-- a WAVE file whose samples are converted
unfoldable pub converted : List ℕ → Option (List ℕ)
converted file = if is_wave file then wave_by (file_chunks file) else None
