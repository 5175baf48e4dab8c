-- The samples of the frames, and their volume.
use Rattle.std.specs.Prelude.{ℕ, ◌+◌, ◌*◌, ◌-◌, ◌≤◌, List, [], ◌∷◌, length, take, drop, min, slice_range, pos, ◌*ℤ◌, int_div, ℤ}
use Rattle.std.specs.Int.{w16, from_le_bytes, cast_signed}
use Rattle.wave_pcm.specs.declared.info.WaveInfo.{WaveInfo}

-- the samples in the bytes, two bytes a sample, the low one first
abbrev pub samples_in : List ℕ → List ℤ
samples_in [] = []
samples_in (b ∷ []) = []
samples_in (low ∷ high ∷ bytes) = cast_signed w16 (from_le_bytes w16 (low ∷ high ∷ [])) ∷ samples_in bytes

-- bytes a frame
abbrev pub frame_len : WaveInfo → ℕ
frame_len info = 2 * info.channels

-- the file has the frames that the head tells of
abbrev pub HasFrames : WaveInfo → List ℕ → Type 0
HasFrames info file = info.first_byte + frame_len info * info.frames ≤ length file

-- the samples of at most `most` frames, from one frame on
abbrev pub frames_from : List ℕ → WaveInfo → ℕ → ℕ → List ℤ
frames_from file info from most = take (info.channels * most) (drop (info.channels * from) (samples_in (slice_range file
    info.first_byte (info.first_byte + frame_len info * info.frames))))

-- a sample at a volume of so many hundredths, rounded toward zero
abbrev pub at_volume : ℕ → ℤ → ℤ
at_volume volume sample = int_div (sample *ℤ pos volume) (pos 100)

-- the first byte of the samples of at most `most` frames from one frame on, and their length in bytes
abbrev pub range_from : WaveInfo → ℕ → ℕ → ℕ × ℕ
range_from info from most =
    let start = min from info.frames in
    (info.first_byte + frame_len info * start, frame_len info * min (info.frames - start) most)
