use Rattle.std.proofs.Common.{◌≡◌, ◌++◌, take, drop}
use Rattle.idle_masks.specs.Watched.{marked_some}
use Rattle.idle_masks.proofs.watch.mark_each.Given as goal

-- so far the clients among these are marked, and the others stand as they were
abbrev pub invariant-loop-one : goal.invariant-loop-one
invariant-loop-one l = l.watched ≡ marked_some (take l.one-index l.fn.watched) l.clients l.changed ++ drop l.one-index l.fn.watched
