use Rattle.as_wave.proofs.PlainFiles.{plain_stays}
use Rattle.as_wave.proofs.laws.plain_file_stays.Goals as goal

pub returns : goal.returns
returns c = plain_stays
