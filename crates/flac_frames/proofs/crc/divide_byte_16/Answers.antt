-- The low byte moves up, and the high one with the next is divided by the table.
use Rattle.std.proofs.Common.{sym, arith}
use Rattle.flac_frames.proofs.Division.{byte_by_table}
use Rattle.flac_frames.proofs.crc.divide_byte_16.Goals as goal

pub returns : goal.returns
returns c = rw c.remainder_of.ensures (sym (byte_by_table c.args.remainder c.args.byte (omega arith)))
