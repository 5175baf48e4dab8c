use Rattle.std.proofs.Common.{refl}
use Rattle.song_files.specs.Tag.{table}
use Rattle.song_files.proofs.tag.rows.Goals as goal

pub returns : goal.returns
unfolding table
returns c = refl
