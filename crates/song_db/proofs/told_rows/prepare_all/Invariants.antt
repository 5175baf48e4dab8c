use Rattle.std.proofs.Common.{◌≡◌, ◌++◌}
use Rattle.std.specs.Vec.Iter.{into_iter_items}
use Rattle.song_db.proofs.told_rows.prepare_all.Given as goal

-- the changes so far, and those that are left
abbrev pub invariant-loop-change : goal.invariant-loop-change
invariant-loop-change l = l.all.items ++ into_iter_items l.change-iterator ≡ l.fn.changes.items
