use Rattle.std.proofs.Common.{length, ap, arith}
use Rattle.state_codec.proofs.RoomLaws.{eight_each}
use Rattle.state_codec.proofs.writing.ops.ranges_len.Goals as goal

pub returns-clause-len : goal.returns-clause-len
returns-clause-len c = omega (arith, eight_each c.args.ranges.now, ap length c.as_slice.ensures, ap length c.ranges-2.ensures.ranges)
