use Rattle.std.proofs.Common.{refl}
use Rattle.song_db.proofs.decoded.decoded_endings.Goals as goal

pub returns : goal.returns
returns c = refl
