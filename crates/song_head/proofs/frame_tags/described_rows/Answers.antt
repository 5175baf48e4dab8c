use Rattle.std.proofs.Common.{refl}
use Rattle.song_head.specs.FrameTags.{described_frames}
use Rattle.song_head.proofs.frame_tags.described_rows.Goals as goal

pub returns : goal.returns
unfolding described_frames
returns c = refl
