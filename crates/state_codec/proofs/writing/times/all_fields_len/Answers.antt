use Rattle.std.proofs.Common.{length, ap, arith}
use Rattle.std.specs.List.{flat_map}
use Rattle.stored_lists.specs.Times.{Times}
use Rattle.state_codec.specs.SpellingTimes.{time_bytes, times_front}
use Rattle.state_codec.proofs.TimeFields.{fields_len}
use Rattle.state_codec.proofs.writing.times.all_fields_len.Goals as goal

pub items_len-requires : goal.items_len-requires
items_len-requires c = omega (arith, c.as_slice-times.ensures.within.few, ap length c.as_slice-times.ensures.times)

pub returns-clause-len : goal.returns-clause-len
returns-clause-len c =
    omega (
      arith,
      fields_len c.args.times.now c.args.place.now,
      c.front_len.ensures.len,
      c.items_len.ensures.len,
      c.place_len.ensures.len,
      ap (λ (times : Times). length (times_front times)) c.as_slice-times.ensures.times,
      ap (λ (times : Times). length (flat_map time_bytes times)) c.as_slice-times.ensures.times,
    )
