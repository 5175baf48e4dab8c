use Rattle.std.proofs.Common.{◌≡◌, map}
use lib.Seq.{paste}
use Rattle.play_queue.proofs.drawn.put_back_in.Given as goal

abbrev pub invariant-loop-at : goal.invariant-loop-at
invariant-loop-at l = l.ids ≡ paste l.initial.ids l.start (map (λ one. one.id) l.drawn) l.at
