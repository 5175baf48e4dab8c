use Rattle.std.proofs.Common.{◌≡◌, take}
use Rattle.play_queue.specs.Songs.{stamps_anew}
use Rattle.play_queue.proofs.entries.stamping.stamp_others.Given as goal

abbrev pub invariant-loop-at : goal.invariant-loop-at
invariant-loop-at l = l.stamps ≡ stamps_anew (take l.at l.ids) (take l.at l.before) l.stamp l.initial.stamps
