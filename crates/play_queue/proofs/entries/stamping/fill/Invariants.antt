use Rattle.std.proofs.Common.{◌≡◌, ◌++◌, map, take, drop}
use Rattle.play_queue.proofs.entries.stamping.fill.Given as goal

abbrev pub invariant-loop-one : goal.invariant-loop-one
invariant-loop-one l = l.stamps ≡ map (λ _. l.stamp) (take l.one-index l.initial.stamps) ++ drop l.one-index l.initial.stamps
