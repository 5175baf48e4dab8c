use Rattle.std.proofs.Common.{◌≡◌, ◌<◌, ◌+◌, ◌*◌, ◌^◌, ◌++◌, drop}
use Rattle.flac_frames.specs.Bits.{bits_of, bits_of_number}
use Rattle.flac_frames.specs.Left.{left}
use Rattle.flac_frames.proofs.bits.BitReader.refill_end.Given as goal

-- what moves into the word is left behind it
abbrev pub invariant-loop-byte : goal.invariant-loop-byte
invariant-loop-byte l = record {
  same : bits_of_number l.count l.word ++ bits_of (drop l.byte-index l.bytes) ≡ left l.fn.self;
  small : l.word < 2 ^ l.count;
  counted : l.count ≡ l.initial.count + 8 * l.byte-index;
}
