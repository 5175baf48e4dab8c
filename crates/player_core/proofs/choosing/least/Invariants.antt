use Rattle.std.proofs.Common.{◌≡◌, drop}
use Rattle.player_core.specs.Candidates.{is_counted}
use Rattle.player_core.proofs.Least.{best_from}
use Rattle.player_core.proofs.choosing.least.Given as goal

abbrev pub invariant-loop-at : goal.invariant-loop-at
invariant-loop-at l = record {
  round : l.words ≡ record { key = l.fn.draw.key; order = l.fn.draw.order };
  best : l.best ≡ best_from l.fn.draw.key l.fn.draw.order (is_counted l.is_new l.current l.played.keys) l.block l.dropped l.at
      (drop l.at l.entries);
}
