-- The format of the samples, in the data of a chunk `fmt `.
use Rattle.std.specs.Prelude.{ℕ, ◌*◌, List, length, drop, nat_lt, nat_le, ◌==◌, ◌&&◌, ◌||◌, Bool, Result, Ok, Err, if◌then◌else◌}
use Rattle.std.specs.Int.{w16, w32, from_le_bytes}
use Rattle.wave_pcm.specs.declared.format.Format.{Format}
use Rattle.wave_pcm.specs.declared.refusal.WaveError.{WaveError}
use Rattle.wave_pcm.specs.declared.refusal.WaveError.TheVariants.{NoFormat, Unsupported}
use Rattle.wave_pcm.specs.Limits.{MAX_RATE}

abbrev pub u16_at : ℕ → List ℕ → ℕ
u16_at at body = from_le_bytes w16 (drop at body)

abbrev pub u32_at : ℕ → List ℕ → ℕ
u32_at at body = from_le_bytes w32 (drop at body)

-- PCM of 16 bits in one or two channels, at 1 to 192,000 frames a second
abbrev pub is_supported : ℕ → ℕ → ℕ → ℕ → ℕ → Bool
is_supported tag channels rate align bits =
    tag == 1 && bits == 16 && (channels == 1 || channels == 2) && nat_le 1 rate && nat_le rate MAX_RATE && align == 2 * channels

abbrev pub judged : ℕ → ℕ → ℕ → ℕ → ℕ → Result Format WaveError
judged tag channels rate align bits =
    if is_supported tag channels rate align bits then Ok (record { rate = rate; channels = channels }) else Err (Unsupported tag
    bits channels)

-- by the tag, the channels, the rate, the block align and the bits
abbrev pub format_by : List ℕ → Result Format WaveError
format_by body = judged (u16_at 0 body) (u16_at 2 body) (u32_at 4 body) (u16_at 12 body) (u16_at 14 body)

abbrev pub format_from : List ℕ → Result Format WaveError
format_from body = if nat_lt (length body) 16 then Err NoFormat else format_by body
