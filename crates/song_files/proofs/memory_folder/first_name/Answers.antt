use Rattle.std.proofs.Common.{None, sym, arith}
use Rattle.std.proofs.lemmas.Str.Pattern.{split_once_first}
use Rattle.song_files.proofs.Listings.{no_slash}
use Rattle.song_files.proofs.memory_folder.first_name.Goals as goal

pub returns-in-None-clause-kind : goal.returns-in-None-clause-kind
returns-in-None-clause-kind c =
    sym (no_slash c.args.path.now (split_once_first 47 c.args.path.now None c.in-None.ensures.cases (omega arith)))
