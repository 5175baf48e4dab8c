use Rattle.std.proofs.Common.{length, ap, arith}
use Rattle.std.proofs.lemmas.List.Folds.{length-flat_map-take}
use Rattle.state_codec.specs.SpellingOps.{op_bytes}
use Rattle.state_codec.specs.declared.op.Op.{Op}
use Rattle.machine_core.proofs.work.size_with.Goals as goal

pub returns-then-bytes-all-clause-none : goal.returns-then-bytes-all-clause-none
returns-then-bytes-all-clause-none c none =
    let f = op_bytes c.args.profile in
    let ops = c.args.ops.now in
    let op = c.op-item.result in
    omega (
      arith,
      length-flat_map-take f ops c.loop-op.op-index op (omega arith),
      ap (λ (o : Op). length (f o)) c.op-item.is,
      c.spelled_len-bytes.ensures,
      c.loop-op.invariant.0,
    )
