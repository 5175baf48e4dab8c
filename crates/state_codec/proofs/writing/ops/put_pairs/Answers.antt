use Rattle.std.proofs.Common.{length, take, ap, arith}
use Rattle.std.specs.List.{flat_map}
use Rattle.std.proofs.lemmas.List.{length-append}
use Rattle.std.proofs.lemmas.List.Folds.{length-flat_map-take}
use Rattle.state_codec.specs.SpellingFields.{pair_bytes}
use Rattle.state_codec.proofs.writing.ops.put_pairs.Goals as goal

pub put_range-requires-clause-room : goal.put_range-requires-clause-room
put_range-requires-clause-room c =
    let i = c.loop-range.range-index in
    omega (
      arith,
      c.requires.room,
      c.loop-range.out.ok.0,
      c.args.out.now.ok.0,
      c.loop-range.invariant.1,
      ap length c.loop-range.invariant.0,
      length-append c.args.out.now.items (flat_map pair_bytes (take i c.args.ranges.now)),
      length-flat_map-take pair_bytes c.args.ranges.now i (0, 0) (omega arith),
    )
