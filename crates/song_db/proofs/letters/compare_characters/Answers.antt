use Rattle.song_db.proofs.LetterSteps.{same_letters}
use Rattle.song_db.proofs.letters.compare_characters.Goals as goal

pub returns-then-left-right : goal.returns-then-left-right
returns-then-left-right c = same_letters c.args.left c.args.right c.if-left-right.true
