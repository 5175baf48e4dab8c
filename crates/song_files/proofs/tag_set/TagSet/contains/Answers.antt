use Rattle.std.proofs.Common.{ap, nat_eq}
use Rattle.std.proofs.lemmas.Nat.Bits.{shr_and_one}
use Rattle.song_files.specs.Tag.{number_of}
use Rattle.song_files.specs.TagSet.{has_tag}
use Rattle.song_files.proofs.tag_set.TagSet.contains.Goals as goal

pub returns : goal.returns
unfolding has_tag
returns c = rw c.number.ensures.number (ap (λ b. nat_eq b 1) (shr_and_one c.args.self.mask (number_of c.args.tag)))
