-- The zeros in front of the word's first one.
use Rattle.std.proofs.Common.{arith}
use Rattle.flac_frames.specs.Bits.{bits_of}
use Rattle.flac_frames.specs.Left.{left}
use Rattle.flac_frames.proofs.ReadLists.{top_is, top_rest, unary_word}
use Rattle.flac_frames.proofs.bits.BitReader.take_zeros.Goals as goal

pub overflow_sub-zeros : goal.overflow_sub-zeros
overflow_sub-zeros c =
    let t = top_is c.args.self.now.count c.args.self.now.word c.requires c.args.self.now.small c.args.self.now.few in
    omega (arith, t.inside)

pub overflow_sub-zeros-2 : goal.overflow_sub-zeros-2
overflow_sub-zeros-2 c =
    let t = top_is c.args.self.now.count c.args.self.now.word c.requires c.args.self.now.small c.args.self.now.few in
    omega (arith, t.inside)

pub overflow_sub-self : goal.overflow_sub-self
overflow_sub-self c =
    let t = top_is c.args.self.now.count c.args.self.now.word c.requires c.args.self.now.small c.args.self.now.few in
    omega (arith, t.shifted, t.low)

pub invariant_of-self : goal.invariant_of-self
invariant_of-self c =
    let t = top_is c.args.self.now.count c.args.self.now.word c.requires c.args.self.now.small c.args.self.now.few in
    record { few = omega arith; small = top_rest c.args.self.now.count c.args.self.now.word t; short = c.args.self.now.short }

pub returns-clause-reads : goal.returns-clause-reads
unfolding left
returns-clause-reads c =
    let t = top_is c.args.self.now.count c.args.self.now.word c.requires c.args.self.now.small c.args.self.now.few in
    rw c.from.ensures (unary_word c.args.self.now.count c.args.self.now.word (bits_of c.args.self.now.rest.now) t)
