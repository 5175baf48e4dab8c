use Rattle.std.proofs.Common.{◌≡◌, map, take}
use Rattle.play_queue.proofs.drawn.draw.Given as goal

abbrev pub invariant-loop-at : goal.invariant-loop-at
invariant-loop-at l = (map (λ one. one.id) l.drawn.items ≡ take l.at l.ids) × (map (λ one. one.word) l.drawn.items ≡ take l.at l.words)
