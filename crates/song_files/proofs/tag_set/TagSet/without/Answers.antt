use Rattle.song_files.specs.TagSet.{has_tag}
use Rattle.song_files.proofs.TagSets.{without_bit}
use Rattle.song_files.proofs.tag_set.TagSet.without.Goals as goal

pub returns : goal.returns
unfolding has_tag
returns c = λ other. rw c.number.ensures.number (without_bit c.args.self.mask c.args.tag other)
