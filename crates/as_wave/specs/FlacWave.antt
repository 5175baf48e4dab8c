-- The WAVE file of 16-bit PCM that a FLAC file stands for.
use Rattle.std.specs.Prelude.{ℕ, ◌*◌, List, [], ◌∷◌, ◌==◌, ◌&&◌, ◌||◌, nat_lt, nat_le, Bool, codes}
use Rattle.std.specs.Prelude.{Option, Some, None, Result, Ok, Err, if◌then◌else◌}
use Rattle.wave_pcm.specs.Chunks.{Chunk}
use Rattle.wave_pcm.specs.Limits.{MAX_RATE}
use Rattle.flac.specs.Reading.{flac_reading}
use Rattle.flac.specs.declared.head.FlacHead.{FlacHead}
use Rattle.flac.specs.declared.refusal.FlacError.{FlacError}
use Rattle.flac.specs.declared.stream_info.StreamInfo.{StreamInfo}
use Rattle.as_wave.specs.FlacSamples.{flac_samples}
use Rattle.as_wave.specs.FlacTag.{tag_of}
use Rattle.as_wave.specs.Samples.{bytes_of}
use Rattle.as_wave.specs.StandsFor.{riff_data, riff_file}
use Rattle.as_wave.specs.declared.format.SampleFormat.{SampleFormat}
use Rattle.as_wave.specs.declared.format.SampleWidth.TheVariants.{Bits16}

-- STREAMINFO tells how many samples there are, and a format that can be played
abbrev pub is_told : StreamInfo → Bool
is_told info =
    (info.channels == 1 || info.channels == 2) && nat_le 1 info.rate && nat_le info.rate MAX_RATE && nat_le info.bits 32 && nat_lt 0 info.samples

-- the format of the WAVE file
abbrev pub flac_format : StreamInfo → SampleFormat
flac_format info = record { rate = info.rate; channels = info.channels; width = Bits16 }

-- the chunk that a tag stands in
abbrev pub tag_chunks : Option (List ℕ) → List Chunk
tag_chunks None = []
tag_chunks (Some body) = record { id = codes "id3 "; first = 0; body = body } ∷ []

-- the WAVE file of a file with this head, its tag behind the samples, if a RIFF file has room for it
abbrev pub wave_of_head : List ℕ → FlacHead → Option (List ℕ)
wave_of_head file head =
    if is_told head.info then riff_file (riff_data (flac_format head.info) (bytes_of (flac_samples file head)) (tag_chunks (tag_of file
    head)))
    else None

abbrev pub wave_of_reading : List ℕ → Result FlacHead FlacError → Option (List ℕ)
wave_of_reading file (Ok head) = wave_of_head file head
wave_of_reading file (Err error) = None

-- the WAVE file of a FLAC file
unfoldable pub flac_wave : List ℕ → Option (List ℕ)
flac_wave file = wave_of_reading file (flac_reading file)
