use Rattle.std.proofs.Common.{refl}
use Rattle.song_head.specs.FrameTags.{comments}
use Rattle.song_head.proofs.frame_tags.comment_rows.Goals as goal

pub returns : goal.returns
unfolding comments
returns c = refl
