use Rattle.std.proofs.Common.{◌≡◌, drop}
use Rattle.stored_lists.specs.Times.{time_of}
use Rattle.stored_lists.proofs.times.ListTimes.seconds_of.Given as goal

-- it isn't among those that were looked at
abbrev pub invariant-loop-time : goal.invariant-loop-time
invariant-loop-time l = time_of l.name (drop l.time-index l.time-items) ≡ time_of l.name l.self
