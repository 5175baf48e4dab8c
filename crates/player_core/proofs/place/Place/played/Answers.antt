use Rattle.std.proofs.Common.{subst, arith}
use Rattle.player_core.specs.Place.{IsPlace}
use Rattle.player_core.proofs.place.Place.played.Goals as goal

pub returns-clause-within : goal.returns-clause-within
returns-clause-within c =
    subst IsPlace c.self.view_is (record { song = omega arith; frame = omega arith; played = c.as_slice.ensures.within })
