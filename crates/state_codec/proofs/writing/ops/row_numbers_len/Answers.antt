use Rattle.std.proofs.Common.{length, ap, arith}
use Rattle.state_codec.proofs.RoomLaws.{four_each}
use Rattle.state_codec.proofs.writing.ops.row_numbers_len.Goals as goal

pub returns-clause-len : goal.returns-clause-len
returns-clause-len c = omega (arith, four_each c.args.rows.now, ap length c.as_slice.ensures.numbers)
