use Rattle.std.proofs.Common.{refl}
use Rattle.song_head.specs.FrameTags.{frames}
use Rattle.song_head.proofs.frame_tags.frame_rows.Goals as goal

pub returns : goal.returns
unfolding frames
returns c = refl
