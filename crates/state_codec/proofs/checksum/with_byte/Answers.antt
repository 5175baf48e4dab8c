use Rattle.std.proofs.Common.{sym, arith}
use Rattle.state_codec.proofs.ChecksumLaws.{by_table}
use Rattle.state_codec.proofs.checksum.with_byte.Goals as goal

pub returns : goal.returns
returns c = rw c.row_of-eight.ensures (sym (by_table c.args.sum c.args.byte (omega arith)))
