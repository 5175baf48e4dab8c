use Rattle.std.proofs.Common.{◌≡◌, ◌++◌, take}
use Rattle.state_codec.proofs.op.changes.copy_all.Given as goal

abbrev pub invariant-loop-change : goal.invariant-loop-change
invariant-loop-change l = l.copies.items ≡ l.initial.copies.items ++ take l.change-index l.changes
