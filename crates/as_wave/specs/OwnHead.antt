-- What a reader finds in the WAVE file that a file stands for.
use Rattle.std.specs.Prelude.{◌≡◌, ℕ, List, Some}
use Rattle.wave_pcm.specs.Chunks.{Chunk}
use Rattle.song_files.specs.Tags.{TagText}
use Rattle.wave_pcm.specs.declared.info.WaveInfo.{WaveInfo}
use Rattle.as_wave.specs.StandsFor.{converted, format_in, data_in, file_chunks}
use Rattle.as_wave.specs.declared.format.SampleFormat.{SampleFormat}

-- the file stands for this WAVE file, by its format and its data
pub record IsMade (file wave : List ℕ) (format : SampleFormat) (sound : Chunk) : Type 0 where
  pub made : converted file ≡ Some wave
  pub by_format : format_in (file_chunks file) ≡ Some format
  pub by_data : data_in (file_chunks file) ≡ Some sound

-- the samples follow a head of 44 bytes
abbrev pub own_info : SampleFormat → ℕ → List TagText → WaveInfo
own_info format frames texts = record {
  rate = format.rate;
  channels = format.channels;
  first_byte = 44;
  frames = frames;
  tags = texts;
}
