-- The samples of PCM, and the same at 16 bits.
use Rattle.std.specs.Prelude.{ℕ, zero, suc, ◌+◌, ◌*◌, ◌-◌, ◌^◌, ◌/◌, List, [], ◌∷◌, length, drop, map, slice_index, nat_lt}
use Rattle.std.specs.Prelude.{ℤ, pos, ◌+ℤ◌, ◌-ℤ◌, ◌*ℤ◌, if◌then◌else◌}
use Rattle.std.specs.List.{flat_map}
use Rattle.std.specs.Int.{w16, w32, from_le_bytes, to_le_bytes, cast_signed, cast_unsigned, int_shr, saturate_signed}
use Rattle.as_wave.specs.Format.{byte_len}
use Rattle.as_wave.specs.declared.format.SampleFormat.{SampleFormat}
use Rattle.as_wave.specs.declared.format.SampleWidth.{SampleWidth}
use Rattle.as_wave.specs.declared.format.SampleWidth.TheVariants.{Bits8, Bits16, Bits24, Bits32}

-- three bytes as a number, the low one first
abbrev pub u24_in : List ℕ → ℕ
u24_in bytes = slice_index bytes 0 + 256 * slice_index bytes 1 + 65536 * slice_index bytes 2

-- The sample at the front of these bytes, the low byte first: 8 bits are unsigned, and 128 is zero;
-- more bits are in two's complement.
abbrev pub sample_at : SampleWidth → List ℕ → ℤ
sample_at Bits8 bytes = pos (slice_index bytes 0) -ℤ pos 128
sample_at Bits16 bytes = cast_signed w16 (from_le_bytes w16 bytes)
sample_at Bits24 bytes = if nat_lt (u24_in bytes) (2 ^ 23) then pos (u24_in bytes) else pos (u24_in bytes) -ℤ pos (2 ^ 24)
sample_at Bits32 bytes = cast_signed w32 (from_le_bytes w32 bytes)

-- the first so many samples in these bytes
abbrev pub samples_of : SampleWidth → ℕ → List ℕ → List ℤ
samples_of width zero bytes = []
samples_of width (suc count) bytes = sample_at width bytes ∷ samples_of width count (drop (byte_len width) bytes)

-- without the lowest `bits` bits: to the nearest, a half up, and no further than 16 bits go
abbrev pub rounded : ℕ → ℤ → ℤ
rounded bits sample = saturate_signed w16 (int_shr (sample +ℤ pos (2 ^ (bits - 1))) bits)

-- a sample at 16 bits: fewer are moved up, more are rounded
abbrev pub at_16 : SampleWidth → ℤ → ℤ
at_16 Bits8 sample = sample *ℤ pos 256
at_16 Bits16 sample = sample
at_16 Bits24 sample = rounded 8 sample
at_16 Bits32 sample = rounded 16 sample

-- the bytes of 16-bit samples, the low byte first
abbrev pub bytes_of : List ℤ → List ℕ
bytes_of samples = flat_map (λ sample. to_le_bytes w16 (cast_unsigned w16 sample)) samples

-- whole frames in the data
abbrev pub frames_in : SampleFormat → List ℕ → ℕ
frames_in format body = length body / (format.channels * byte_len format.width)

-- their samples, those of a frame side by side, at 16 bits
abbrev pub sound_in : SampleFormat → List ℕ → List ℤ
sound_in format body = map (at_16 format.width) (samples_of format.width (format.channels * frames_in format body) body)
