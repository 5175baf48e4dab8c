use Rattle.std.proofs.Common.{length, take, ap, arith}
use Rattle.std.specs.List.{flat_map}
use Rattle.std.proofs.lemmas.List.{length-append}
use Rattle.std.proofs.lemmas.List.Folds.{length-flat_map-take}
use Rattle.state_codec.specs.SpellingFields.{u32_bytes}
use Rattle.state_codec.proofs.writing.ops.put_numbers.Goals as goal

pub put_u32-requires : goal.put_u32-requires
put_u32-requires c =
    let i = c.loop-number.number-index in
    omega (
      arith,
      c.requires,
      c.loop-number.out.ok.0,
      c.args.out.now.ok.0,
      c.loop-number.invariant.1,
      ap length c.loop-number.invariant.0,
      length-append c.args.out.now.items (flat_map u32_bytes (take i c.args.numbers.now)),
      length-flat_map-take u32_bytes c.args.numbers.now i 0 (omega arith),
    )
