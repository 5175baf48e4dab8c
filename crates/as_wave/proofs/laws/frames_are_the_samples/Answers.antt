use Rattle.as_wave.proofs.OwnFrames.{frames_are}
use Rattle.as_wave.proofs.laws.frames_are_the_samples.Goals as goal

pub returns : goal.returns
returns c = frames_are
