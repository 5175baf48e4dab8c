use Rattle.as_wave.proofs.OwnHeads.{head_is}
use Rattle.as_wave.proofs.laws.wave_file_is_read.Goals as goal

pub returns : goal.returns
returns c = head_is
