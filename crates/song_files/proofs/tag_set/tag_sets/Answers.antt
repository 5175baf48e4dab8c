use Rattle.std.proofs.Common.{nat_eq, refl, ap}
use Rattle.std.proofs.lemmas.Nat.Bits.{bit_at-zero}
use Rattle.song_files.specs.Tag.{table, number_of}
use Rattle.song_files.specs.TagSet.{has_tag}
use Rattle.song_files.specs.declared.tag.Tag.TheVariants.{Title}
use Rattle.song_files.proofs.tag_set.tag_sets.Goals as goal

pub returns-clause-none : goal.returns-clause-none
unfolding has_tag
returns-clause-none c = λ tag. ap (λ b. nat_eq b 1) (bit_at-zero (number_of tag))

pub returns-clause-six : goal.returns-clause-six
unfolding has_tag number_of table
returns-clause-six c = elim [ Title ↦ refl | _ ↦ refl ]

pub returns-clause-all : goal.returns-clause-all
unfolding has_tag number_of table
returns-clause-all c = elim [ Title ↦ refl | _ ↦ refl ]
