use Rattle.std.proofs.Common.{refl}
use Rattle.song_db.specs.Letters.{ascii_letters}
use Rattle.song_db.proofs.letters.ascii.Goals as goal

pub returns-clause-letters : goal.returns-clause-letters
unfolding ascii_letters
returns-clause-letters c = refl

pub returns-clause-count : goal.returns-clause-count
returns-clause-count c = refl
