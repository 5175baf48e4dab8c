-- The format of the samples, in the data of a chunk `fmt `: that of the format tag 1, or 0xFFFE (WAVE_FORMAT_EXTENSIBLE).
use Rattle.std.specs.Prelude.{ℕ, ◌*◌, List, [], ◌∷◌, length, take, drop, nat_le, ◌==◌, ◌&&◌, ◌||◌, not, Bool}
use Rattle.std.specs.Prelude.{Option, Some, None, option_and_then, if◌then◌else◌}
use Rattle.std.specs.Str.{bytes_eq}
use Rattle.wave_pcm.specs.Format.{u16_at, u32_at}
use Rattle.wave_pcm.specs.Limits.{MAX_RATE}
use Rattle.as_wave.specs.declared.format.SampleFormat.{SampleFormat}
use Rattle.as_wave.specs.declared.format.SampleWidth.{SampleWidth}
use Rattle.as_wave.specs.declared.format.SampleWidth.TheVariants.{Bits8, Bits16, Bits24, Bits32}

-- how many bytes a sample takes
abbrev pub byte_len : SampleWidth → ℕ
byte_len Bits8 = 1
byte_len Bits16 = 2
byte_len Bits24 = 3
byte_len Bits32 = 4

-- the container of a sample, by its bits
abbrev pub width_of : ℕ → Option SampleWidth
width_of bits =
    if bits == 8 then Some Bits8
    else if bits == 16 then Some Bits16
    else if bits == 24 then Some Bits24
    else if bits == 32 then Some Bits32
    else None

-- the sub-format 00000001-0000-0010-8000-00aa00389b71, KSDATAFORMAT_SUBTYPE_PCM
abbrev pub pcm_guid : List ℕ
pcm_guid = 1 ∷ 0 ∷ 0 ∷ 0 ∷ 0 ∷ 0 ∷ 16 ∷ 0 ∷ 128 ∷ 0 ∷ 0 ∷ 170 ∷ 0 ∷ 56 ∷ 155 ∷ 113 ∷ []

-- PCM by the sub-format, with no more valid bits than the container has: they are the high ones
abbrev pub is_extensible_pcm : List ℕ → Bool
is_extensible_pcm body =
    u16_at 0 body == 0xFFFE && nat_le 40 (length body) && nat_le (u16_at 18 body) (u16_at 14 body) && bytes_eq (take 16 (drop 24
    body)) pcm_guid

-- PCM by the format tag, or by the sub-format
abbrev pub is_pcm : List ℕ → Bool
is_pcm body = u16_at 0 body == 1 || is_extensible_pcm body

-- 16-bit PCM by the format tag is read as it is
abbrev pub is_plain : List ℕ → Bool
is_plain body = u16_at 0 body == 1 && u16_at 14 body == 16

-- one or two channels, 1 to 192,000 frames a second, and frames with nothing between their samples
abbrev pub is_playable : ℕ → ℕ → ℕ → SampleWidth → Bool
is_playable channels rate align width =
    (channels == 1 || channels == 2) && nat_le 1 rate && nat_le rate MAX_RATE && align == channels * byte_len width

abbrev pub judged : ℕ → ℕ → ℕ → SampleWidth → Option SampleFormat
judged channels rate align width =
    if is_playable channels rate align width then Some (record { rate = rate; channels = channels; width = width }) else None

-- by the channels, the rate, the block align and the bits
abbrev pub format_by : List ℕ → Option SampleFormat
format_by body = option_and_then (judged (u16_at 2 body) (u32_at 4 body) (u16_at 12 body)) (width_of (u16_at 14 body))

-- the format of PCM that isn't read as it is
abbrev pub sample_format : List ℕ → Option SampleFormat
sample_format body =
    if nat_le 16 (length body) && is_pcm body && not (is_plain body) then format_by body else None
