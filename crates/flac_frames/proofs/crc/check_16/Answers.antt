-- One byte more.
use Rattle.std.proofs.Common.{◌∙◌, refl, arith}
use Rattle.flac_frames.specs.Crc.{crc_16}
use Rattle.flac_frames.proofs.Checks.{byte_divided, all_divided}
use Rattle.flac_frames.proofs.crc.check_16.Goals as goal

pub loop-byte-init : goal.loop-byte-init
unfolding crc_16
loop-byte-init c = refl

pub loop-byte-preserved : goal.loop-byte-preserved
loop-byte-preserved c =
    byte_divided 16 0x8005 c.loop-byte.remainder _ c.args.bytes.now c.loop-byte.byte-index (omega arith) c.divide_byte_16-remainder.ensures ∙ c.loop-byte.invariant

pub returns : goal.returns
returns c = all_divided 16 0x8005 c.loop-byte.remainder c.args.bytes.now c.loop-byte.byte-index (omega arith) ∙ c.loop-byte.invariant
