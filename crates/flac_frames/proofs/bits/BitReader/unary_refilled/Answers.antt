-- Zeros are counted word by word.
use Rattle.std.proofs.Common.{◌≡◌, ◌<◌, ◌∙◌, sym, length, arith}
use Rattle.std.proofs.lemmas.Grind.{common_steps}
use Rattle.flac_frames.specs.Bits.{bits_of_number}
use Rattle.flac_frames.specs.Left.{left}
use Rattle.flac_frames.proofs.Lefts.{ended_left, moved_zeros, shorter, length-rest}
use Rattle.flac_frames.proofs.bits.BitReader.unary_refilled.Goals as goal

pub returns-then-is_empty-clause-reads : goal.returns-then-is_empty-clause-reads
returns-then-is_empty-clause-reads c =
    let none : length c.loop-self.self.rest.now ≡ 0 = grind (arith, common_steps) in
    sym c.loop-self.invariant.same ∙ ended_left c.loop-self.self c.loop-self.zeros c.loop-self-test.true none

pub loop-self-smaller : goal.loop-self-smaller
unfolding left bits_of_number
loop-self-smaller c =
    let some : 0 < length c.loop-self.self.rest.now = grind (arith, common_steps) in
    shorter c.refill.new.self c.loop-self.self c.refill.ensures.same c.refill.ensures.filled some

pub loop-self-preserved : goal.loop-self-preserved
unfolding left bits_of_number
loop-self-preserved c =
    record {
      same = moved_zeros c.loop-self.self c.refill.new.self c.loop-self.zeros c.from-zeros.result c.loop-self-test.true c.from-zeros.ensures c.refill.ensures.same
          ∙ c.loop-self.invariant.same;
      counted = omega (arith, length-rest c.refill.new.self c.loop-self.self c.refill.ensures.same, c.loop-self.invariant.counted, c.from-zeros.ensures);
    }
