use Rattle.std.proofs.Common.{arith}
use Rattle.machine_core.proofs.Lists.Lines.{no_more}
use Rattle.machine_core.proofs.machine.Machine.list_looks.Goals as goal

pub overflow_mul-result : goal.overflow_mul-result
overflow_mul-result c =
    omega (
      arith,
      no_more c.lists-lists.result.now c.args.name.now c.in-Ok.songs.now c.in-Ok.ensures.songs,
      c.len-limits.ensures.within.few_entries,
      c.len.ensures.count,
    )
