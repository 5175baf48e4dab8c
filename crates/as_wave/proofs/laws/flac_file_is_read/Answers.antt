use Rattle.as_wave.proofs.FlacWaves.{head_read}
use Rattle.as_wave.proofs.laws.flac_file_is_read.Goals as goal

pub returns : goal.returns
returns c = head_read
