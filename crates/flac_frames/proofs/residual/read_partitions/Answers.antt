-- One partition more.
use Rattle.std.proofs.Common.{◌≡◌, ◌+◌, ◌*◌, ◌≤◌, length, take, arith}
use Rattle.std.proofs.lemmas.Result.{err_from_is_err_and}
use Rattle.flac_frames.specs.Left.{left}
use Rattle.flac_frames.proofs.Partitions.{partitions_step, partitions_fault, partitions_end, part_length, part_taken, part_fits, row_end, row_inside}
use Rattle.flac_frames.proofs.residual.read_partitions.Goals as goal

pub returns-in_err-read_partition-clause-reads : goal.returns-in_err-read_partition-clause-reads
returns-in_err-read_partition-clause-reads c =
    let p = err_from_is_err_and c.from_residual.result c.from_residual.ensures.1 in
    let inside : c.loop-i.i * c.args.size + c.args.size ≤ length c.loop-i.out = row_inside c.args.count c.loop-i.i c.args.size (length c.loop-i.out) (omega arith) (omega arith) in
    let h = rw (part_length c.loop-i.i c.args.size c.loop-i.out inside) at c.in_err-read_partition.ensures.reads in
    rw (p.1, p.2) (partitions_fault c.args.parameter_bits c.args.count c.loop-i.i c.args.size (take (c.loop-i.i * c.args.size) c.loop-i.out) (left c.loop-i.reader) _ _ (omega arith) h c.loop-i.invariant.same)

pub loop-i-preserved : goal.loop-i-preserved
loop-i-preserved c =
    let inside : c.loop-i.i * c.args.size + c.args.size ≤ length c.loop-i.out = row_inside c.args.count c.loop-i.i c.args.size (length c.loop-i.out) (omega arith) (omega arith) in
    let len = part_length c.loop-i.i c.args.size c.loop-i.out inside in
    let h = rw len at c.in_ok-read_partition.ensures.reads in
    let same_len : length c.read_partition.new.out ≡ c.args.size = omega (arith, len) in
    record {
      same = partitions_step c.args.parameter_bits c.args.count c.loop-i.i c.args.size (take (c.loop-i.i * c.args.size) c.loop-i.out) c.read_partition.new.out _ (left c.loop-i.reader) (left c.read_partition.new.reader) _ (omega arith) h
          (part_taken c.loop-i.i c.args.size c.loop-i.out c.read_partition.new.out inside same_len) c.loop-i.invariant.same;
      in_range = part_fits c.loop-i.i c.args.size c.loop-i.out c.read_partition.new.out inside same_len c.loop-i.invariant.in_range c.in_ok-read_partition.ensures.in_range;
    }

pub returns-clause-reads : goal.returns-clause-reads
returns-clause-reads c =
    partitions_end c.args.parameter_bits c.args.count c.loop-i.i c.args.size c.loop-i.out (left c.loop-i.reader) _ (omega arith) (row_end c.args.count c.loop-i.i c.args.size _ (omega arith) (omega arith)) c.loop-i.invariant.same
