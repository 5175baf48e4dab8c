use Rattle.std.proofs.Common.{refl}
use Rattle.player_core.proofs.LastIds.{last_or-found}
use Rattle.player_core.proofs.commanded.last_left.Goals as goal

pub returns-in-Some : goal.returns-in-Some
returns-in-Some c = last_or-found c.args.played.now.keys c.in-Some.id.now c.args.other
    (c.in-Some.ensures.found.0 refl) c.in-Some.ensures.key
