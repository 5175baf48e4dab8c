use Rattle.std.proofs.Common.{take}
use Rattle.disk_model.specs.Replayed.{IsReplayed}
use Rattle.disk_model.proofs.window.left_since.Given as goal

abbrev pub invariant-loop-i : goal.invariant-loop-i
invariant-loop-i l = IsReplayed l.first (take l.i l.calls) l.moment l.image l.content.items l.window l.left
