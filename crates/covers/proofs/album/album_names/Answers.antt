use Rattle.std.proofs.Common.{refl}
use Rattle.covers.specs.AlbumNames.{album_names}
use Rattle.covers.proofs.album.album_names.Goals as goal

pub returns : goal.returns
unfolding album_names
returns c = refl
