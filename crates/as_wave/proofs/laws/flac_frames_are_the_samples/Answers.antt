use Rattle.as_wave.proofs.FlacWaves.{frames_read}
use Rattle.as_wave.proofs.laws.flac_frames_are_the_samples.Goals as goal

pub returns : goal.returns
returns c = frames_read
