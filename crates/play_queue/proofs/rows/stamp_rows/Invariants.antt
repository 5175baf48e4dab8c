use Rattle.std.proofs.Common.{◌≡◌, ◌++◌, take, drop}
use Rattle.play_queue.specs.Restamp.{marked}
use Rattle.play_queue.proofs.rows.stamp_rows.Given as goal

abbrev pub invariant-loop-at : goal.invariant-loop-at
invariant-loop-at l = l.entries ≡ marked l.uris l.stamp (take l.at l.initial.entries) ++ drop l.at l.initial.entries
