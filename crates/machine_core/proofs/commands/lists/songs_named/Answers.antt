use Rattle.std.proofs.Common.{arith}
use Rattle.machine_core.proofs.Lists.Lines.{no_more}
use Rattle.machine_core.proofs.commands.lists.songs_named.Goals as goal

pub returns-in-Ok-clause-few : goal.returns-in-Ok-clause-few
returns-in-Ok-clause-few c =
    omega (arith, no_more c.args.lists.now c.args.name.now c.in-Ok.songs.now c.in-Ok.ensures.songs, c.len-limits.ensures.within.few_entries)
