use Rattle.std.proofs.Common.{◌≡◌, ◌++◌, drop}
use Rattle.state_codec.specs.RowSteps.{changed_by}
use Rattle.state_codec.proofs.saved.batch.changed_by.Given as goal

abbrev pub invariant-loop-at : goal.invariant-loop-at
invariant-loop-at l = l.uris.items ++ changed_by l.songs (drop l.at l.changes) ≡ changed_by l.songs l.changes
