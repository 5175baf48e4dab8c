-- The bits of the byte, one by one.
use Rattle.std.proofs.Common.{◌≡◌, ◌/◌, refl, arith}
use Rattle.flac_frames.specs.Bits.{bits_of_number}
use Rattle.flac_frames.specs.Crc.{remainder_after}
use Rattle.flac_frames.proofs.crc.divide_byte_8.Goals as goal

pub returns : goal.returns
unfolding bits_of_number remainder_after
returns c =
    let e : c.args.byte / 1 ≡ c.args.byte = omega arith in
    rw (c.divide_8.ensures, c.divide_8-g.ensures, c.divide_8-f.ensures, c.divide_8-e.ensures, c.divide_8-d.ensures, c.divide_8-c.ensures, c.divide_8-b.ensures, c.divide_8-a.ensures, e) refl
