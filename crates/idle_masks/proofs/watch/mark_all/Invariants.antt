use Rattle.std.proofs.Common.{◌≡◌, ◌++◌, take, drop}
use Rattle.idle_masks.specs.Watched.{marked}
use Rattle.idle_masks.proofs.watch.mark_all.Given as goal

-- so far the clients are marked, and the others stand as they were
abbrev pub invariant-loop-watched : goal.invariant-loop-watched
invariant-loop-watched l = l.clients ≡ marked (take l.watched-index l.fn.clients) l.changed ++ drop l.watched-index l.fn.clients
