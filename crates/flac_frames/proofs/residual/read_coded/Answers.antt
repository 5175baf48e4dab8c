-- One reading more.
use Rattle.std.proofs.Common.{length, arith, rules}
use Rattle.std.proofs.lemmas.Result.{err_from_is_err_and}
use Rattle.std.proofs.lemmas.Int.{to_z-of_z}
use Rattle.std.specs.Int.{w64}
use mir.Val.{SFits}
use Rattle.flac_frames.specs.Residual.{rice}
use Rattle.flac_frames.specs.Left.{left}
use Rattle.flac_frames.proofs.Times.{times_step, times_err, times_end, fits_step}
use Rattle.flac_frames.proofs.residual.read_coded.Goals as goal

pub returns-in_err-residual-clause-reads : goal.returns-in_err-residual-clause-reads
returns-in_err-residual-clause-reads c =
    let p = err_from_is_err_and c.from_residual.result c.from_residual.ensures.1 in
    rw (p.1, p.2) (times_err (rice c.args.parameter) c.loop-residual.out c.loop-residual.residual-index (length c.args.out.now) (left c.loop-residual.reader) _ _ (omega arith) c.in_err-residual.ensures.reads c.loop-residual.invariant.same)

pub loop-residual-preserved : goal.loop-residual-preserved
loop-residual-preserved c =
    let f : SFits w64 c.in_ok-residual.field-0 = search rules in
    rw (to_z-of_z w64 c.in_ok-residual.field-0 f) (record {
      same = times_step (rice c.args.parameter) c.loop-residual.out c.loop-residual.residual-index (length c.args.out.now) c.in_ok-residual.field-0 (left c.loop-residual.reader) (left c.read_rice.new.reader) _ (omega arith) (omega arith) c.in_ok-residual.ensures.reads c.loop-residual.invariant.same;
      in_range = fits_step 33 c.loop-residual.out c.loop-residual.residual-index c.in_ok-residual.field-0 (omega arith) c.loop-residual.invariant.in_range c.in_ok-residual.ensures.in_range;
    })

pub returns-clause-reads : goal.returns-clause-reads
returns-clause-reads c =
    times_end (rice c.args.parameter) c.loop-residual.out c.loop-residual.residual-index (length c.args.out.now) (left c.loop-residual.reader) _ (omega arith) (omega arith) c.loop-residual.invariant.same
