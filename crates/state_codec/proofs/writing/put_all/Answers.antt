use Rattle.std.proofs.Common.{length, take, ap, arith}
use Rattle.std.specs.List.{flat_map}
use Rattle.std.proofs.lemmas.List.{length-append}
use Rattle.std.proofs.lemmas.List.Folds.{length-flat_map-take}
use Rattle.state_codec.specs.declared.op.Op.{Op}
use Rattle.state_codec.specs.SpellingOps.{op_bytes}
use Rattle.state_codec.proofs.writing.put_all.Goals as goal

pub put_reserved-requires : goal.put_reserved-requires
put_reserved-requires c =
    let p = c.args.profile in
    let i = c.loop-op.op-index in
    let item = c.op-item.result in
    omega (
      arith,
      c.requires,
      c.loop-op.out.ok.0,
      c.args.out.now.ok.0,
      c.loop-op.invariant.capacity,
      ap length c.loop-op.invariant.items,
      length-append c.args.out.now.items (flat_map (op_bytes p) (take i c.args.ops.now)),
      length-flat_map-take (op_bytes p) c.args.ops.now i item (omega arith),
      ap (λ (x : Op). length (op_bytes p x)) c.op-item.is,
    )
