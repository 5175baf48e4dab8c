-- One reading more.
use Rattle.std.proofs.Common.{length, arith, rules}
use Rattle.std.proofs.lemmas.Result.{err_from_is_err_and}
use Rattle.std.proofs.lemmas.Int.{to_z-of_z}
use Rattle.std.specs.Int.{w64}
use mir.Val.{SFits}
use Rattle.flac_frames.specs.Reading.{signed}
use Rattle.flac_frames.specs.Left.{left}
use Rattle.flac_frames.proofs.Times.{times_step, times_err, times_end, fits_step}
use Rattle.flac_frames.proofs.residual.read_signed.Goals as goal

pub returns-in_err-number-clause-reads : goal.returns-in_err-number-clause-reads
returns-in_err-number-clause-reads c =
    let p = err_from_is_err_and c.from_residual.result c.from_residual.ensures.1 in
    rw (p.1, p.2) (times_err (signed c.args.width) c.loop-number.out c.loop-number.number-index (length c.args.out.now) (left c.loop-number.reader) _ _ (omega arith) c.in_err-number.ensures.reads c.loop-number.invariant.same)

pub loop-number-preserved : goal.loop-number-preserved
loop-number-preserved c =
    let f : SFits w64 c.in_ok-number.field-0 = search rules in
    rw (to_z-of_z w64 c.in_ok-number.field-0 f) (record {
      same = times_step (signed c.args.width) c.loop-number.out c.loop-number.number-index (length c.args.out.now) c.in_ok-number.field-0 (left c.loop-number.reader) (left c.signed.new.self) _ (omega arith) (omega arith) c.in_ok-number.ensures.reads c.loop-number.invariant.same;
      in_range = fits_step c.args.width c.loop-number.out c.loop-number.number-index c.in_ok-number.field-0 (omega arith) c.loop-number.invariant.in_range c.in_ok-number.ensures.in_range;
    })

pub returns-clause-reads : goal.returns-clause-reads
returns-clause-reads c =
    times_end (signed c.args.width) c.loop-number.out c.loop-number.number-index (length c.args.out.now) (left c.loop-number.reader) _ (omega arith) (omega arith) c.loop-number.invariant.same
