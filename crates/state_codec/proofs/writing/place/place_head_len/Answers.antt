use Rattle.std.proofs.Common.{List, ℕ, length, ap, arith}
use Rattle.state_codec.specs.SpellingPlace.{round_head}
use Rattle.state_codec.proofs.PlaceFields.{head_len}
use Rattle.state_codec.proofs.writing.place.place_head_len.Goals as goal

pub returns-clause-len : goal.returns-clause-len
returns-clause-len c =
    omega (
      arith,
      head_len c.args.place.now,
      c.spot_len.ensures.len,
      c.round_head_len.ensures.len,
      ap (λ (ids : List ℕ). length (round_head ids)) c.played.ensures.ids,
    )
