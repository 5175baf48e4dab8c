-- How the WAVE file that a file stands for is made of that file.
use Rattle.std.specs.Prelude.{ℕ, ◌+◌, ◌*◌, ◌≤◌, List, ◌++◌, length, drop, map, All, codes}
use Rattle.std.specs.Int.{w32, to_le_bytes}
use Rattle.as_wave.specs.ChunkHead.{chunks_at, StandsBy}
use Rattle.as_wave.specs.Format.{byte_len}
use Rattle.as_wave.specs.Samples.{samples_of, at_16, bytes_of}
use Rattle.as_wave.specs.StandsFor.{format_bytes, chunks_bytes}
use Rattle.wave_pcm.specs.declared.chunks.ChunkHead.{ChunkHead}
use Rattle.as_wave.specs.declared.format.SampleFormat.{SampleFormat}
use Rattle.as_wave.specs.declared.format.SampleWidth.{SampleWidth}
use Rattle.as_wave.specs.declared.plan.PcmPlan.{PcmPlan}

-- what stands before the samples, by their length in bytes and that of what stands behind them
unfoldable pub wave_head : SampleFormat → ℕ → ℕ → List ℕ
wave_head format sound rest =
    codes "RIFF" ++ to_le_bytes w32 (36 + sound + rest) ++ codes "WAVE" ++ codes "fmt " ++ to_le_bytes w32 16 ++ format_bytes
    format ++ codes "data" ++ to_le_bytes w32 sound

-- the bytes of so many samples, from their place in the file
abbrev pub sound_from : SampleWidth → ℕ → ℕ → List ℕ → List ℕ
sound_from width first count file = bytes_of (map (at_16 width) (samples_of width count (drop first file)))

-- the head, the samples and the chunks behind them
abbrev pub laid_out : SampleFormat → ℕ → ℕ → ℕ → List ChunkHead → List ℕ → List ℕ
laid_out format first count rest kept file =
    wave_head format (2 * count) rest ++ (sound_from format.width first count file ++ chunks_bytes (chunks_at file kept))

abbrev pub planned : PcmPlan → List ℕ → List ℕ
planned plan file = laid_out plan.format plan.first plan.count plan.rest plan.kept.items file

-- all that it takes from the file stands there
pub record Fits (plan : PcmPlan) (file : List ℕ) : Type 0 where
  pub sound : plan.first + byte_len plan.format.width * plan.count ≤ length file
  pub kept : All (StandsBy (length file)) plan.kept.items
