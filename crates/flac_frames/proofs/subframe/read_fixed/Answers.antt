-- The coefficients are those of the order.
use Rattle.std.proofs.Common.{◌≡◌, length, take, ap, arith}
use Rattle.flac_frames.specs.Left.{left}
use Rattle.flac_frames.specs.Subframe.{fixed}
use Rattle.flac_frames.specs.Predicted.{restored_block}
use Rattle.flac_frames.proofs.Blocks.{reads_same, fixed_is}
use Rattle.flac_frames.proofs.subframe.read_fixed.Goals as goal

pub returns-clause-reads : goal.returns-clause-reads
returns-clause-reads c =
    let front = ap (λ n. take n c.read_warm_up.new.out) c.coefficients_of.ensures.len in
    let size : length c.read_warm_up.new.out ≡ length c.args.out.now = omega arith in
    reads_same (fixed c.args.width (length c.args.out.now) c.args.order)
    (restored_block c.args.width c.coefficients_of.result.now 0 (take (length c.coefficients_of.result.now) c.read_warm_up.new.out) (length c.read_warm_up.new.out))
    (left c.args.reader.now) (left c.read_warm_up.new.reader) c.read_restored.result c.read_restored.new.out (left c.read_restored.new.reader)
    (fixed_is c.args.width (length c.args.out.now) c.args.order (length c.read_warm_up.new.out) (left c.args.reader.now) (left c.read_warm_up.new.reader) (take c.args.order c.read_warm_up.new.out)
    (take (length c.coefficients_of.result.now) c.read_warm_up.new.out) c.coefficients_of.result.now
    c.in_ok-read_warm_up.ensures.reads c.coefficients_of.ensures.value c.coefficients_of.ensures.len front size)
    c.read_restored.ensures.reads
