use Rattle.std.proofs.Common.{◌≡◌, [], take}
use Rattle.player_core.specs.Place.{found_ids}
use Rattle.player_core.proofs.place.resumed_round.Given as goal

abbrev pub invariant-loop-id : goal.invariant-loop-id
invariant-loop-id l = l.known.keys ≡ found_ids l.entries (take l.id-index l.played) []
