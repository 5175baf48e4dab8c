use Rattle.std.proofs.Common.{length, take, ap, arith}
use Rattle.std.specs.List.{flat_map}
use Rattle.std.proofs.lemmas.List.{length-append}
use Rattle.std.proofs.lemmas.List.Folds.{length-flat_map-take}
use Rattle.stored_lists.specs.declared.times.ListTime.{ListTime}
use Rattle.state_codec.specs.SpellingTimes.{time_bytes}
use Rattle.state_codec.proofs.writing.times.put_items.Goals as goal

pub put_time-requires : goal.put_time-requires
put_time-requires c =
    let i = c.loop-time.time-index in
    let item = c.time-item.result in
    omega (
      arith,
      c.requires,
      c.loop-time.out.ok.0,
      c.args.out.now.ok.0,
      c.loop-time.invariant.1,
      ap length c.loop-time.invariant.0,
      length-append c.args.out.now.items (flat_map time_bytes (take i c.args.times.now)),
      length-flat_map-take time_bytes c.args.times.now i item (omega arith),
      ap (λ (x : ListTime). length (time_bytes x)) c.time-item.is,
    )
