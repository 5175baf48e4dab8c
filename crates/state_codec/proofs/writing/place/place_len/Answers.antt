use Rattle.std.proofs.Common.{length, ap, arith}
use Rattle.state_codec.proofs.PlaceFields.{place_len}
use Rattle.state_codec.proofs.writing.place.place_len.Goals as goal

pub returns-clause-len : goal.returns-clause-len
returns-clause-len c =
    omega (arith, place_len c.args.place.now, c.place_head_len.ensures.len, ap length c.played.ensures.ids)

pub returns-clause-within : goal.returns-clause-within
returns-clause-within c =
    omega (arith, c.place_head_len.ensures.within, ap length c.played.ensures.ids, c.played.ensures.within.played.few)
