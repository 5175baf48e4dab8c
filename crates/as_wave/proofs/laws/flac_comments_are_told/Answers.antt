use Rattle.as_wave.proofs.FlacWaves.{tag_told}
use Rattle.as_wave.proofs.laws.flac_comments_are_told.Goals as goal

pub returns : goal.returns
returns c = tag_told
