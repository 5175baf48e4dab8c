use Rattle.std.proofs.Common.{arith}
use Rattle.std.proofs.lemmas.Str.Pattern.{split_parts}
use Rattle.song_db.proofs.ToldKeys.{split}
use Rattle.song_db.proofs.told.split_part.Goals as goal

pub returns-clause-parts : goal.returns-clause-parts
returns-clause-parts c = split c.args.path.now c.split_once.result
    (split_parts 47 c.args.path.now c.split_once.result c.split_once.ensures.cases (omega arith))
