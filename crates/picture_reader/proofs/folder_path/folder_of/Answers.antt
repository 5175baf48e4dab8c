use Rattle.std.proofs.Common.{rules}
use Rattle.picture_reader.proofs.Folders.{folder_is}
use Rattle.picture_reader.proofs.folder_path.folder_of.Goals as goal

pub returns-in-Some : goal.returns-in-Some
returns-in-Some c =
    let split = folder_is c.args.path.now _ c.rsplit_once.ensures.cases in
    rw (← split) (grind rules)

pub returns-in-None : goal.returns-in-None
returns-in-None c =
    let split = folder_is c.args.path.now _ c.rsplit_once.ensures.cases in
    rw (← split) (grind rules)
