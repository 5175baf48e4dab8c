use Rattle.player_core.proofs.BadSongs.{bad_songs_end}
use Rattle.player_core.proofs.laws.bad_songs_end.Goals as goal

pub returns : goal.returns
returns c = bad_songs_end
