use Rattle.std.proofs.Common.{refl}
use Rattle.song_head.specs.Genres.{genre_names}
use Rattle.song_head.proofs.genres.names.Goals as goal

pub returns : goal.returns
unfolding genre_names
returns c = refl
