-- By computation of the whole table.
use Rattle.std.proofs.Common.{◌≡◌, true, eqb, get_or, refl, arith}
use Rattle.std.proofs.lemmas.Bool.{agree_below_at, eqb-true}
use Rattle.flac_frames.specs.Bits.{bits_of_number}
use Rattle.flac_frames.specs.Crc.{divided, remainder_after}
use Rattle.flac_frames.specs.CrcBytes.{after_byte}
use Rattle.flac_frames.specs.declared.crc.TheConstants.{REMAINDERS}
use Rattle.flac_frames.proofs.crc.remainder_of.Goals as goal

pub returns : goal.returns
unfolding bits_of_number remainder_after divided
returns c =
    let t : eqb (get_or REMAINDERS c.args.byte 0) (after_byte 16 0x8005 0 c.args.byte) ≡ true
    = agree_below_at (λ n. eqb (get_or REMAINDERS n 0) (after_byte 16 0x8005 0 n)) (λ n. true) 256 c.args.byte refl (omega arith) in
    rw c.from.ensures (eqb-true (get_or REMAINDERS c.args.byte 0) (after_byte 16 0x8005 0 c.args.byte) t)
