-- The coefficients are those that were read.
use Rattle.std.proofs.Common.{◌≡◌, length, take, refl, arith}
use Rattle.flac_frames.specs.Left.{left}
use Rattle.flac_frames.specs.Subframe.{linear}
use Rattle.flac_frames.specs.Predicted.{restored_block}
use Rattle.flac_frames.proofs.Blocks.{reads_same, linear_is}
use Rattle.flac_frames.proofs.Ranges.{all_wider}
use Rattle.flac_frames.proofs.subframe.read_linear.Goals as goal

pub read_restored-requires-clause-small : goal.read_restored-requires-clause-small
read_restored-requires-clause-small c =
    all_wider c.in_ok-precision.precision 15 c.read_signed.new.out c.in_ok-precision.ensures.few c.in_ok-read_signed.ensures.in_range

pub returns-clause-reads : goal.returns-clause-reads
returns-clause-reads c =
    let order = length c.args.coefficients.now in
    let same : length c.read_signed.new.out ≡ length c.args.coefficients.now = omega arith in
    let front : take (length c.read_signed.new.out) c.read_warm_up.new.out ≡ take (length c.args.coefficients.now) c.read_warm_up.new.out = rw same refl in
    let size : length c.read_warm_up.new.out ≡ length c.args.out.now = omega arith in
    reads_same (linear c.args.width (length c.args.out.now) (length c.args.coefficients.now))
    (restored_block c.args.width c.read_signed.new.out c.in_ok-shift.shift (take (length c.read_signed.new.out) c.read_warm_up.new.out) (length c.read_warm_up.new.out))
    (left c.args.reader.now) (left c.read_signed.new.reader) c.read_restored.result c.read_restored.new.out (left c.read_restored.new.reader)
    (linear_is c.args.width (length c.args.out.now) (length c.args.coefficients.now) (length c.read_warm_up.new.out) (left c.args.reader.now) (left c.read_warm_up.new.reader) (left c.read_precision.new.reader) (left c.read_shift.new.reader)
    (left c.read_signed.new.reader) (take (length c.args.coefficients.now) c.read_warm_up.new.out)
    (take (length c.read_signed.new.out) c.read_warm_up.new.out) c.read_signed.new.out c.read_signed.new.out c.in_ok-precision.precision c.in_ok-shift.shift
    c.in_ok-read_warm_up.ensures.reads c.in_ok-precision.ensures.reads c.in_ok-shift.ensures.reads c.in_ok-read_signed.ensures.reads refl same front size)
    c.read_restored.ensures.reads
