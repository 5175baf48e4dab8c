use Rattle.std.proofs.Common.{◌≡◌, take}
use Rattle.stored_lists.proofs.times.ListTimes.try_clone.Given as goal

abbrev pub invariant-loop-time : goal.invariant-loop-time
invariant-loop-time l = l.copy ≡ take l.time-index l.time-items
