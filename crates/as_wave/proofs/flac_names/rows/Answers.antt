use Rattle.std.proofs.Common.{refl}
use Rattle.as_wave.specs.FlacNames.{frame_names}
use Rattle.as_wave.proofs.flac_names.rows.Goals as goal

pub returns : goal.returns
unfolding frame_names
returns c = refl
