use Rattle.std.proofs.Common.{◌<◌, sym, length, arith}
use Rattle.std.proofs.lemmas.Grind.{common_steps}
use Rattle.song_db.proofs.Below.{below_short, below_long}
use Rattle.song_db.proofs.place.is_below.Goals as goal

pub returns-then-path-folder : goal.returns-then-path-folder
returns-then-path-folder c = sym (below_short c.args.folder.now c.args.path.now (omega arith))

pub returns-then-eq : goal.returns-then-eq
returns-then-eq c =
    let long : length c.args.folder.now < length c.args.path.now = omega arith in
    let decided = below_long c.args.folder.now c.args.path.now long in
    grind (arith, common_steps)

pub returns-else-eq : goal.returns-else-eq
returns-else-eq c =
    let long : length c.args.folder.now < length c.args.path.now = omega arith in
    let decided = below_long c.args.folder.now c.args.path.now long in
    grind (arith, common_steps)
