use Rattle.std.proofs.Common.{arith}
use Rattle.flac.proofs.head.end_of.Goals as goal

pub overflow_add-result : goal.overflow_add-result
overflow_add-result c = omega (arith, c.in-Some.ensures.within c.args.end c.requires)
