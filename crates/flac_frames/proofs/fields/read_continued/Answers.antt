-- Six bits more.
use Rattle.std.proofs.Common.{arith}
use Rattle.std.proofs.lemmas.Result.{err_from_is_err_and}
use Rattle.flac_frames.specs.Left.{left}
use Rattle.flac_frames.proofs.Continued.{continued_step, continued_fault, continued_end, more_six, six_in_64}
use Rattle.flac_frames.proofs.fields.read_continued.Goals as goal

pub returns-in_err-low-clause-reads : goal.returns-in_err-low-clause-reads
returns-in_err-low-clause-reads c =
    let p = err_from_is_err_and c.from_residual.result c.from_residual.ensures.1 in
    rw (p.1, p.2) (continued_fault c.args.n c.loop-k._k c.loop-k.number (left c.loop-k.reader) _ _ (omega arith) c.in_err-low.ensures.reads c.loop-k.invariant.same)

pub overflow_mul-number : goal.overflow_mul-number
overflow_mul-number c =
    omega (arith, six_in_64 c.loop-k._k c.loop-k.number c.in_ok-low.low (omega arith) c.loop-k.invariant.small c.in_ok-low.ensures.small)

pub overflow_add-number : goal.overflow_add-number
overflow_add-number c =
    omega (arith, six_in_64 c.loop-k._k c.loop-k.number c.in_ok-low.low (omega arith) c.loop-k.invariant.small c.in_ok-low.ensures.small)

pub loop-k-preserved : goal.loop-k-preserved
loop-k-preserved c = record {
  same = continued_step c.args.n c.loop-k._k c.loop-k.number c.in_ok-low.low (left c.loop-k.reader) (left c.read_six_bits.new.reader) _ (omega arith) c.in_ok-low.ensures.reads c.loop-k.invariant.same;
  small = more_six c.loop-k._k c.loop-k.number c.in_ok-low.low c.loop-k.invariant.small c.in_ok-low.ensures.small;
  whole = omega (arith, c.in_ok-low.ensures.taken, c.loop-k.invariant.whole);
}

pub returns-clause-reads : goal.returns-clause-reads
returns-clause-reads c = continued_end c.args.n c.loop-k._k c.loop-k.number (left c.loop-k.reader) _ (omega arith) c.loop-k.invariant.same
