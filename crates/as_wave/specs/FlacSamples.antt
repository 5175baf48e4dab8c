-- A FLAC file's samples at 16 bits.
use Rattle.std.specs.Prelude.{ℕ, ◌-◌, ◌*◌, ◌^◌, List, ◌++◌, map, take, replicate, nat_le, ℤ, pos, ◌*ℤ◌, if◌then◌else◌}
use Rattle.std.specs.Int.{w16, saturate_signed}
use Rattle.flac.specs.Frames.{file_samples}
use Rattle.flac.specs.declared.head.FlacHead.{FlacHead}
use Rattle.as_wave.specs.Samples.{rounded, bytes_of}

-- a sample of so many bits at 16 bits, and no further than those go: fewer are moved up, more are rounded
abbrev pub from_bits : ℕ → ℤ → ℤ
from_bits bits sample =
    if nat_le bits 16 then saturate_signed w16 (sample *ℤ pos (2 ^ (16 - bits))) else rounded (bits - 16) sample

-- so many samples, with silence behind the last one
abbrev pub padded_to : ℕ → List ℤ → List ℤ
padded_to count samples = take count (samples ++ replicate count (pos 0))

-- so many samples of these at 16 bits
abbrev pub at_bits : ℕ → ℕ → List ℤ → List ℤ
at_bits bits count samples = padded_to count (map (from_bits bits) samples)

-- the samples that STREAMINFO tells of, those of a moment side by side; where a frame is broken, silence
abbrev pub flac_samples : List ℕ → FlacHead → List ℤ
flac_samples file head = at_bits head.info.bits (head.info.channels * head.info.samples) (file_samples file head)
