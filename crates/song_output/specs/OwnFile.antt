-- A piece as a WAVE file of its own: the samples that it has, and what a reader finds.
use Rattle.std.specs.Prelude.{◌≡◌, ℕ, ◌*◌, ◌<◌, ◌≤◌, List, [], length, ℤ, FitsSigned}
use Rattle.std.specs.Int.{w16}
use Rattle.std.specs.List.{All}
use Rattle.wave_pcm.specs.declared.info.WaveInfo.{WaveInfo}
use Rattle.song_output.specs.Sound.{most_frames}

-- samples of 16 bits that are so many whole frames of a song: some, and no more than one order asks for
pub record AreFrames (info : WaveInfo) (count : ℕ) (samples : List ℤ) : Type 0 where
  pub some : 0 < count
  pub few : count ≤ most_frames
  pub whole : length samples ≡ info.channels * count
  pub fit : All (FitsSigned w16) samples

-- a head that tells of so many frames behind its 44 bytes, at the song's rate and channels, and of no tags
abbrev pub own_info : WaveInfo → ℕ → WaveInfo
own_info info count = record {
  rate = info.rate;
  channels = info.channels;
  first_byte = 44;
  frames = count;
  tags = [];
}
