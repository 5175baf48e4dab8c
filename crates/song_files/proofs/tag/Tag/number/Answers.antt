use Rattle.song_files.proofs.TagNumbers.{number_is, number_below}
use Rattle.song_files.proofs.tag.Tag.number.Goals as goal

pub returns-clause-number : goal.returns-clause-number
returns-clause-number c = number_is c.args.self

pub returns-clause-within : goal.returns-clause-within
returns-clause-within c = rw number_is (number_below c.args.self)
