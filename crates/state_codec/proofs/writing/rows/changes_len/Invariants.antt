use Rattle.std.proofs.Common.{◌≡◌, ◌+◌, ◌*◌, ◌≤◌, length, take}
use Rattle.std.specs.List.{flat_map}
use Rattle.state_codec.specs.SpellingRows.{change_bytes}
use Rattle.state_codec.proofs.writing.rows.changes_len.Given as goal

abbrev pub invariant-loop-change : goal.invariant-loop-change
invariant-loop-change l = (l.len ≡ 1 + length (flat_map (change_bytes l.profile) (take l.change-index l.changes))) × (l.len ≤ 1 + 132391 * l.change-index)
